use mathlib.Core.Path.{◌≡◌, refl, sym, ap, subst, ◌∙◌}
use lib.ListN.{length}
use Prim.Native.Nat.{ℕ}
use native.Mathlib.Omega.{arith}
use Rattle.std.proofs.lemmas.Result.{err_from_is_err_and}
use Rattle.rules.specs.Codes.{step_done}
use Rattle.rules.specs.Step.{kind_of, of_kind}
use Rattle.step_moves.specs.Bodies.{state_of, Leaves}
use Rattle.step_moves.specs.Sets.{with_controller}
use Rattle.step_moves.specs.Gets.{controller_of, stream_of}
use Rattle.step_moves.specs.Acts.{plain}
use Rattle.step_asks.specs.declared.Ask.{Ask}
use Rattle.step_asks.specs.Kinds.{RowKind, row_at}
use Rattle.step_groups.specs.Turns.{row_answer, row_after}
use Rattle.step_groups.specs.Asks.{RowGoes}
use Rattle.step_groups.specs.At.{At, leaves-as}
use Rattle.step_groups.specs.Nodes.{controller-ordered}
use Rattle.step_groups.specs.Called.{ask_of, refused-by}
use Rattle.step_groups.specs.RowTurns.{row-answered, row_goes, row_moved, learn-leaves, row-leaves}
use Rattle.step_body.proofs.Rows.{row-node}
use Rattle.step_body.proofs.at_row.Goals as goal
use Rattle.step_body.proofs.at_row.Goals.{Start}

node_of : (s : Start) → At s.args.body.now s.args.ask.node
node_of s = row-node s.args.body.now s.args.ask s.requires.0 s.requires.1 s.requires.2

kind-of : (s : Start) → RowKind s.args.ask.kind
kind-of s = (row_at s.args.ask s.requires.2).0

-- What the rules answer, of a step that is asked of the body.
abbrev answer : Start → ℕ → ℕ → ℕ
answer s kind writes =
    let b = s.args.body.now in
    let n = s.args.ask.node in
    row_answer (ask_of b kind n) writes (controller_of b n) (stream_of b n) b.core.claims

-- The number of the check's answer is it, for any history of this length.
answered : (s : Start) (code : ℕ) → code ≡ row_answer s.args.ask s.args.writes (controller_of s.args.body.now s.args.ask.node) (stream_of s.args.body.now s.args.ask.node) s.args.body.now.core.claims
    → (writes : ℕ) → writes ≡ s.args.writes → code ≡ answer s s.args.ask.kind writes
answered s code e writes long =
    let b = s.args.body.now in
    let n = s.args.ask.node in
    e ∙ ap (λ (a : Ask). row_answer a s.args.writes (controller_of b n) (stream_of b n) b.core.claims) s.requires.1 ∙ ap (answer s s.args.ask.kind) (sym long)

pub overflow_sub-at : goal.overflow_sub-at
overflow_sub-at c =
    let a = node_of (goal.at.overflow_sub-at c).Start in
    omega arith

pub bounds-body-at : goal.bounds-body-at
bounds-body-at c =
    let a = node_of (goal.at.bounds-body-at c).Start in
    omega arith

pub bounds-body-at-2 : goal.bounds-body-at-2
bounds-body-at-2 c =
    let a = node_of (goal.at.bounds-body-at-2 c).Start in
    omega arith

pub returns-in_err-check_at_row-clause-leaves : goal.returns-in_err-check_at_row-clause-leaves
returns-in_err-check_at_row-clause-leaves c = λ history long.
    let b = c.args.body.now in
    let n = c.args.ask.node in
    let k = c.args.ask.kind in
    let s = (goal.at.returns-in_err-check_at_row-clause-leaves c).Start in
    let p = err_from_is_err_and c.from_residual.result c.from_residual.ensures.1 in
    rw (p.1, p.2)
    (refused-by b c.requires.0 n history (kind_of k) c.in_err-check_at_row.field-0.0
    (answered s _ c.in_err-check_at_row.ensures (length history) long ∙ row-answered b n (node_of s) history k (kind-of s)))

pub learn-requires : goal.learn-requires
learn-requires c = controller-ordered c.args.body.now c.args.ask.node (node_of (goal.at.learn-requires c).Start)

pub bounds-body-at-then-ask : goal.bounds-body-at-then-ask
bounds-body-at-then-ask c =
    let a = node_of (goal.at.bounds-body-at-then-ask c).Start in
    omega arith

pub returns-then-ask-clause-leaves : goal.returns-then-ask-clause-leaves
returns-then-ask-clause-leaves c = λ history long.
    let b = c.args.body.now in
    let n = c.args.ask.node in
    let s = (goal.at.returns-then-ask-clause-leaves c).Start in
    let learns = c.if-ask.true in
    let done = sym (answered s _ c.in_ok-check_at_row.ensures (length history) long) in
    subst (λ (k : ℕ). Leaves history (of_kind (kind_of k) n (state_of b history)) (plain step_done (with_controller n c.learn.result b))) (sym learns)
    (learn-leaves b n (node_of s) history (subst (λ (k : ℕ). answer s k (length history) ≡ step_done) learns done) c.learn.result c.learn.ensures)

pub row_after-row-requires : goal.row_after-row-requires
row_after-row-requires c =
    let b = c.args.body.now in
    let n = c.args.ask.node in
    let s = (goal.at.row_after-row-requires c).Start in (
      subst (λ (a : Ask). RowGoes a (controller_of b n) (stream_of b n) b.core.claims) (sym c.requires.1)
          (row_goes b n (node_of s) c.args.writes c.args.ask.kind (kind-of s) (sym (answered s _ c.in_ok-check_at_row.ensures c.args.writes refl))),
      c.if-ask.false,
    )

pub bounds-body-at-3 : goal.bounds-body-at-3
bounds-body-at-3 c =
    let a = node_of (goal.at.bounds-body-at-3 c).Start in
    omega arith

pub bounds-body-at-4 : goal.bounds-body-at-4
bounds-body-at-4 c =
    let a = node_of (goal.at.bounds-body-at-4 c).Start in
    omega arith

pub returns-clause-leaves : goal.returns-clause-leaves
returns-clause-leaves c = λ history long.
    let b = c.args.body.now in
    let n = c.args.ask.node in
    let s = (goal.at.returns-clause-leaves c).Start in
    leaves-as history _ _ (row_moved b n c.row_after-row.result)
    (ap (row_moved b n) (c.row_after-row.ensures ∙ ap (λ (a : Ask). row_after a (controller_of b n) (stream_of b n) b.core.claims) c.requires.1))
    (row-leaves b n (node_of s) history c.args.ask.kind (kind-of s) c.if-ask.false (sym (answered s _ c.in_ok-check_at_row.ensures (length history) long)))

pub bounds-body-at-5 : goal.bounds-body-at-5
bounds-body-at-5 c =
    let a = node_of (goal.at.bounds-body-at-5 c).Start in
    omega arith
