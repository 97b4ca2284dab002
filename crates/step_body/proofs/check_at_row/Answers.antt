use mathlib.Core.Path.{sym, subst}
use native.Mathlib.Omega.{arith}
use Rattle.step_moves.specs.Gets.{controller_of, stream_of}
use Rattle.step_asks.specs.declared.Ask.{Ask}
use Rattle.step_asks.specs.Kinds.{row_at}
use Rattle.step_groups.specs.Asks.{RowAsks}
use Rattle.step_groups.specs.At.{At}
use Rattle.step_groups.specs.RowTurns.{row-asks}
use Rattle.step_body.proofs.Rows.{row-node}
use Rattle.step_body.proofs.check_at_row.Goals as goal
use Rattle.step_body.proofs.check_at_row.Goals.{Start}

node_of : (s : Start) → At s.args.body.now s.args.ask.node
node_of s = row-node s.args.body.now s.args.ask s.requires.0 s.requires.1 s.requires.2

pub overflow_sub-at : goal.overflow_sub-at
overflow_sub-at c =
    let a = node_of (goal.at.overflow_sub-at c).Start in
    omega arith

pub bounds-body-at : goal.bounds-body-at
bounds-body-at c =
    let a = node_of (goal.at.bounds-body-at c).Start in
    omega arith

pub bounds-body-at-2 : goal.bounds-body-at-2
bounds-body-at-2 c =
    let a = node_of (goal.at.bounds-body-at-2 c).Start in
    omega arith

pub check_row-requires : goal.check_row-requires
check_row-requires c =
    let b = c.args.body.now in
    let n = c.args.ask.node in
    let s = (goal.at.check_row-requires c).Start in
    subst (λ (a : Ask). RowAsks a (controller_of b n) (stream_of b n)) (sym c.requires.1) (row-asks b n (node_of s) c.args.ask.kind (row_at c.args.ask c.requires.2).0)
