-- A list in the places of an array, once one of its elements has gone and those behind it have moved up. Assumes nothing.
use Rattle.std.specs.Prelude.{◌≡◌, true, List, [], ◌∷◌, ℕ, zero, suc, ◌+◌, ◌-◌, ◌<◌, ◌≤◌, length, get_or, set}
use Rattle.std.specs.List.{CopiedTo, SameBelow}
use Rattle.std.proofs.Common.{refl, sym, ap, ◌∙◌, arith, ext_get_or, length-set, get_or-set_same, get_or-set_other, lt-ltb, le-ltb}
use Rattle.std.proofs.Math.ListN.{get_or-eq_default}
use Rattle.std.proofs.Math.Decide.{dec_lt}
use borrow.Author.Tests.{ltb-true}
use Rattle.rules.specs.Limits.{most_backups}
use Rattle.rules.specs.Queues.{has, remove, before}
use Rattle.any_list.specs.Arrays.{padded}
use Rattle.any_list.specs.Padded.{length-padded}
use Rattle.any_list.specs.Search.{has-before}
use Rattle.step_parts.specs.Hold.{as_is}
use Rattle.step_service.specs.Asks.{skipping}
use Rattle.step_service.specs.Removal.{removed-length, removed-at}

-- behind the list there is nothing but 0
padded-at : (size : ℕ) (l : List ℕ) (i : ℕ) → get_or (padded 0 as_is size l) i 0 ≡ get_or l i 0
padded-at zero [] i = refl
padded-at zero (x ∷ l) zero = refl
padded-at zero (x ∷ l) (suc i) = padded-at zero l i
padded-at (suc size) [] zero = refl
padded-at (suc size) [] (suc i) = padded-at size [] i
padded-at (suc size) (x ∷ l) zero = refl
padded-at (suc size) (x ∷ l) (suc i) = padded-at size l i

module _ (n : ℕ) (l b b' : List ℕ) (among : has n l ≡ true) (few : length l ≤ most_backups) (is : b ≡ padded 0 as_is most_backups l)
    (long : length b' ≡ most_backups) (moved : CopiedTo b b' (before n l + 1) (before n l) (most_backups - (before n l + 1))) (still : SameBelow b b' (before n l)) where
  pub gone-below : before n l < length l
  gone-below = ltb-true (before n l) (length l) (sym (has-before n l) ∙ among)

  -- what stands at a place that is kept
  kept : (i : ℕ) → get_or (padded 0 as_is most_backups (remove n l)) i 0 ≡ get_or b (skipping i (before n l)) 0
  kept i =
      padded-at most_backups (remove n l) i ∙ removed-at n l i
      ∙ sym (ap (λ (p : List ℕ). get_or p (skipping i (before n l)) 0) is ∙ padded-at most_backups l (skipping i (before n l)))

  place : (i : ℕ) → i < 7 → Dec (i < before n l) → Dec (i < 6) → get_or (set b' 6 0) i 0 ≡ get_or b (skipping i (before n l)) 0
  place i h (yes below) (yes k) = get_or-set_other b' 6 i 0 0 (λ e. omega arith) ∙ simp (lt-ltb i (before n l) below) (still i 0 below)
  place i h (no past) (yes k) =
      let g = gone-below in
      let at : before n l + 1 + (i - before n l) ≡ i + 1 = omega arith in
      get_or-set_other b' 6 i 0 0 (λ e. omega arith)
      ∙ simp (le-ltb i (before n l) (omega arith)) (moved i 0 (omega arith) (omega arith) ∙ ap (λ (j : ℕ). get_or b j 0) at)
  place i h d (no last) =
      let e : i ≡ 6 = omega arith in
      let g = gone-below in
      let size : length b ≡ 7 = ap length is ∙ length-padded 0 as_is most_backups l few in
      ap (λ (j : ℕ). get_or (set b' 6 0) j 0) e ∙ get_or-set_same b' 6 0 0 (omega arith)
      ∙ sym (simp (le-ltb i (before n l) (omega arith)) (get_or-eq_default b 0 {n = i + 1} (omega arith)))

  pub without-places : set b' 6 0 ≡ padded 0 as_is most_backups (remove n l)
  without-places =
      let r = removed-length n l among in
      let k = length-padded 0 as_is most_backups (remove n l) (omega arith) in
      ext_get_or 0 (set b' 6 0) (padded 0 as_is most_backups (remove n l)) (length-set b' 6 0 ∙ long ∙ sym k)
      (λ i h. let m = length-set b' 6 0 in place i (omega arith) (dec_lt i (before n l)) (dec_lt i 6) ∙ sym (kept i))
