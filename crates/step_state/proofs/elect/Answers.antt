use Rattle.std.proofs.Common.{◌≤◌, ◌∙◌, take, get_or-take, true, false, is_lt, nat_cmp, ◌≡◌, ℕ, ◌<◌, length, get_or, length-take-le, sym, ap, arith}
use Rattle.std.proofs.lemmas.Bool.Decides.{nat_tests}
use Rattle.step_parts.specs.declared.ElectionId.{ElectionId}
use Rattle.rules_laws.specs.Elections.{leads-anew, leads-on, leads-all}
use Rattle.any_list.specs.Arrays.{column}
use Rattle.any_list.specs.Columns.{length-column, column-at}
use Rattle.step_state.specs.Hold.{id_at, pack_elected}
use Rattle.step_state.proofs.elect.Goals as goal
use Rattle.step_state.proofs.elect.Goals.{Start, then-lt, else-lt}

-- the id that is read next
id-at : (c : Start) (i : ℕ) → i < c.args.count → get_or (column id_at c.args.count c.args.ids) i 0 ≡ (get_or c.args.ids i (record { 0 = 0 })).0
id-at c i h = column-at id_at c.args.count i c.args.ids (record { 0 = 0 }) h

-- what the test of two ids says of their numbers
is-less : (a b : ℕ) → is_lt (nat_cmp a b) ≡ true → a < b
is-less a b e = grind (arith, nat_tests)

not-less : (a b : ℕ) → is_lt (nat_cmp a b) ≡ false → b ≤ a
not-less a b e = grind (arith, nat_tests)

pub loop-i-preserved : goal.loop-i-preserved
loop-i-preserved c =
    let a = c.args in
    let n = length-take-le a.count a.ids (omega arith) in
    let e = id-at (goal.at.loop-i-preserved c).Start c.loop-i.i (omega arith) in
    let nobody : ElectionId = record { 0 = 0 } in
    let read : (get_or (take a.count a.ids) c.loop-i.i nobody).0 ≡ get_or (column id_at a.count a.ids) c.loop-i.i 0 =
    ap (λ (x : ElectionId). x.0) (get_or-take a.count a.ids c.loop-i.i nobody (omega arith)) ∙ sym e in
    elim c.if-lt.branch [
      | then-lt w ↦
          let h : c.loop-i.largest.0 < (get_or (take a.count a.ids) c.loop-i.i nobody).0 = is-less _ _ (sym c.lt.ensures ∙ w.if-lt.true) in
          simp (w.master-is, w.largest-is, read) (leads-anew _ _ _ _ c.loop-i.invariant (omega arith))
      | else-lt w ↦
          let h : (get_or (take a.count a.ids) c.loop-i.i nobody).0 ≤ c.loop-i.largest.0 = not-less _ _ (sym c.lt.ensures ∙ w.if-lt.false) in
          simp (w.master-is, w.largest-is) (leads-on _ _ _ _ c.loop-i.invariant (omega arith))
    ]

pub returns : goal.returns
returns c =
    let a = c.args in
    let places : length a.ids ≡ 8 = (omega arith) in
    let k = length-take-le a.count a.ids (omega arith) in
    let n = length-column id_at a.count a.ids (omega arith) in
    sym (ap pack_elected (leads-all _ _ _ _ c.loop-i.invariant (omega arith)))
