use Rattle.std.proofs.Common.{◌≡◌, ap₂, sym, ◌∙◌, true, false, ◌&&◌, ◌+◌, eqb, eq-eqb, ne_eqb, Option, Some, arith}
use Rattle.any_list.specs.Tables.{table-length}
use Rattle.step_parts.specs.declared.Write.{Write}
use Rattle.run_lists.specs.Entries.{entry_at}
use Rattle.run_difference.specs.Difference.{entries}
use Rattle.run_difference.specs.Entries.{common-le, parted}
use Rattle.run_difference.proofs.difference.Goals as goal
use Rattle.run_difference.proofs.difference.Goals.{else-i-n-via-then-i-n+else-i-m, else-i-n-via-else-i-n}

pub returns-then-i-m : goal.returns-then-i-m
returns-then-i-m c =
    let x = c.args in
    let a = eq-eqb c.common-i.result x.n c.if-i-n.true in
    let b = eq-eqb c.common-i.result x.m c.if-i-m.true in
    sym (parted x.one.now x.n x.other.now x.m _ c.common-i.ensures true (rw (a, b)))

pub overflow_cast-result : goal.overflow_cast-result
overflow_cast-result c =
    let x = c.args in
    let low = common-le (entries x.one.now x.n) (entries x.other.now x.m) in
    let size = table-length x.n (entry_at x.one.now) in
    let is = c.common-i.ensures in
    omega arith

pub overflow_add-result : goal.overflow_add-result
overflow_add-result c =
    let x = c.args in
    let low = common-le (entries x.one.now x.n) (entries x.other.now x.m) in
    let size = table-length x.n (entry_at x.one.now) in
    let is = c.common-i.ensures in
    omega arith

pub returns : goal.returns
returns c =
    let x = c.args in
    let i = c.common-i.result in
    let test : (eqb i x.n && eqb i x.m) ≡ false = elim c.else-i-n.branch [ else-i-n-via-then-i-n+else-i-m w ↦ rw (eq-eqb i x.n w.if-i-n.true, ne_eqb i x.m w.if-i-m.false) | else-i-n-via-else-i-n w ↦ rw (ne_eqb i x.n w.if-i-n.false) ] in
    ap₂ (λ (a b : Option Write). Some (record { at = i + 1; one = a; other = b })) c.entry_of.ensures c.entry_of-2.ensures
    ∙ sym (parted x.one.now x.n x.other.now x.m _ c.common-i.ensures false test)
