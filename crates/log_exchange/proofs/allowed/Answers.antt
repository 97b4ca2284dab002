use Rattle.std.specs.Prelude.{true, false, ◌-◌, ◌+◌}
use Rattle.std.proofs.Common.{◌∙◌, arith, rules, tests}
use Rattle.std.proofs.lemmas.Iterator.{YieldsList-from_slice}
use Rattle.std.proofs.lemmas.Iterator.Search.{all_from_yields_List}
use Rattle.log_read.specs.declared.Record.{Record}
use Rattle.log_read.specs.Log.{row_of, record_of}
use Rattle.log_records.specs.Rows.{no_row, row_at}
use Rattle.log_exchange.specs.Exchange.{may_pass}
use Rattle.log_exchange.specs.Passing.{all-between, allowed-up, allowed-down}
use Rattle.log_exchange.proofs.allowed.Goals as goal

pub returns-then-up : goal.returns-then-up
returns-then-up c =
    let m = c.args.merge.now in
    let x = c.args.exchange in
    let test = λ (r : Record). may_pass m.bound true (row_at m.records.now x.y) (row_of r) in
    rw c.if-up.true
    (all_from_yields_List test _ _ _ c.all.ensures.ran (YieldsList-from_slice _ c.iter.ensures.rest) (λ r b q k. search (rules, tests))
    ∙ all-between test (record_of no_row) m.records.now x.x (x.y - x.x) (omega arith)
    ∙ allowed-up m.bound m.records.now x.x x.y)

pub returns-else-up : goal.returns-else-up
returns-else-up c =
    let m = c.args.merge.now in
    let x = c.args.exchange in
    let test = λ (r : Record). may_pass m.bound false (row_at m.records.now x.x) (row_of r) in
    rw c.if-up.false
    (all_from_yields_List test _ _ _ c.all-else-up.ensures.ran (YieldsList-from_slice _ c.iter-else-up.ensures.rest) (λ r b q k. search (rules, tests))
    ∙ all-between test (record_of no_row) m.records.now (x.x + 1) (x.y + 1 - (x.x + 1)) (omega arith)
    ∙ allowed-down m.bound m.records.now x.x x.y)
