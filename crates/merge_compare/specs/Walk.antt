-- The comparison as a loop over the first list: what the loop keeps, and each of its ways out. Assumes nothing.
use Rattle.std.specs.Prelude.{◌≡◌, Bool, true, false, not, ℕ, suc, ◌+◌, ◌-◌, ◌≤◌, ◌<◌, length, get_or, drop}
use Rattle.std.proofs.Common.{sym, subst, ◌∙◌, add-one, arith, drop_of_length-le, drop-cons}
use Rattle.std.proofs.Math.Path.{ap, ap₂}
use mathlib.Core.List.{List, [], ◌∷◌}
use Rattle.rules.specs.Limits.{most_nodes}
use Rattle.rules.specs.Step.{Event}
use Rattle.merge_verdict.specs.Verdict.{Pulled, pull}
use Rattle.merge_letters.specs.Letters.{letter_of, TableFor, passes}
use Rattle.merge_letters.specs.Table.{passes-free}
use Rattle.any_search.specs.Places.{from}
use Rattle.any_search.specs.Seek.{Sought, seek-as}
use Rattle.merge_compare.specs.Compare.{same, only_first, only_second, free, equal, looked, compare}
use Rattle.merge_compare.specs.declared.Verdict.{Verdict}
use Rattle.merge_places.specs.Row.{Placed, Moved, is_stop}
use Rattle.any_search.specs.Holds.{Holds}
use Rattle.merge_places.specs.Filling.{length_from, get_d-from}
use Rattle.merge_places.specs.Taking.{moved-placed}
use Rattle.merge_compare.specs.Left.{pull-missing, pull-blocked, pull-taken}
use Rattle.merge_compare.specs.Obstacles.{hindrance}

module _ (count : ℕ) (here there : ℕ → Event) (n m : ℕ) where
  abbrev may : ℕ → ℕ → Bool
  may = free count here there

  abbrev alike : ℕ → ℕ → Bool
  alike = equal count here there

  abbrev compares : List ℕ → List ℕ → Verdict
  compares = compare count here there

  -- What is to be found.
  abbrev pub whole : Verdict
  whole = compares (from 0 n) (from 0 m)

  -- The first j records are taken; the row from j on has the places of what is left.
  pub record Walking (places : List ℕ) (j : ℕ) : Type 0 where
    pub placed : Placed places m
    pub taken : j ≤ n
    pub room : j ≤ m
    pub going : compares (from j (n - j)) (drop j places) ≡ whole

  pub walk-starts : Walking (from 0 m) 0
  walk-starts = record {
    placed = record { size = length_from 0 m; inside = λ q k. let e = get_d-from 0 m q k in omega arith };
    taken = omega arith;
    room = omega arith;
    going = let z : n - 0 ≡ n = omega arith in ap (λ (k : ℕ). compares (from 0 k) (from 0 m)) z;
  }

  module _ {places : List ℕ} {j : ℕ} (w : Walking places j) where
    long : length places ≡ m
    long = w.placed.size

    -- All records of the first list are taken.
    module _ (done : n ≤ j) where
      none-behind : from j (n - j) ≡ []
      none-behind = let z : n - j ≡ 0 = omega arith in ap (from j) z

      pub walk_same : m ≤ j → same ≡ whole
      unfolding compare
      walk_same h = ap₂ compares (sym none-behind) (sym (drop_of_length-le places {i = j} (let z = long in omega arith))) ∙ w.going

      pub walk-left : j < m → only_second (get_or places j 0) ≡ whole
      unfolding compare
      walk-left h = ap₂ compares (sym none-behind) (sym (drop-cons places j 0 (let z = long in omega arith))) ∙ w.going

    -- The next record of the first list.
    module _ (few : count ≤ most_nodes) {table : List ℕ} (for : TableFor count table) (letters : List ℕ) (are : Holds (λ q. letter_of (there q)) letters m) (more : j < n) {a at : ℕ} (is : a ≡ letter_of (here j))
        (s : Sought (is_stop letters table a places) j (length places) at) where
      stop : Sought (λ q. not (may j (get_or places q 0))) j (length places) at
      stop = seek-as as-stops (subst (λ (x : ℕ). Sought (is_stop letters table x places) j (length places) at) is s)
        where
          as-stops : (q : ℕ) → q < length places → is_stop letters table (letter_of (here j)) places q ≡ not (may j (get_or places q 0))
          as-stops q k = ap not (ap (passes table (letter_of (here j))) (are (get_or places q 0) (w.placed.inside q (let z = long in omega arith))) ∙ passes-free for few (here j) (there (get_or places q 0)))

      next : from j (n - j) ≡ j ∷ from (suc j) (n - (j + 1))
      next = let z : n - j ≡ suc (n - (j + 1)) = omega arith in ap (from j) z

      pulled : {o : Pulled ℕ} → pull (may j) (alike j) (drop j places) ≡ o
          → looked count here there (compares (from (suc j) (n - (j + 1)))) j (from (suc j) (n - (j + 1))) (drop j places) o ≡ whole
      unfolding compare
      pulled e =
          ap (looked count here there (compares (from (suc j) (n - (j + 1)))) j (from (suc j) (n - (j + 1))) (drop j places)) (sym e)
          ∙ ap (λ (ps : List ℕ). compares ps (drop j places)) (sym next) ∙ w.going

      pub walk-missing : m ≤ at → only_first j ≡ whole
      walk-missing h = pulled (pull-missing (may j) (alike j) places stop (let z = long in omega arith))

      module _ (h : at < m) where
        inside : at < length places
        inside = let z = long in omega arith

        pub walk-blocked : alike j (get_or places at 0) ≡ false → hindrance count here there n places j (get_or places at 0) ≡ whole
        walk-blocked e = pulled (pull-blocked (may j) (alike j) places stop inside e)

        pub walk-takes : {after : List ℕ} → Moved j at places after → alike j (get_or places at 0) ≡ true → Walking after (j + 1)
        walk-takes {after} v e = record {
          placed = moved-placed v h w.placed;
          taken = omega arith;
          room = let l = s.low in omega arith;
          going = ap (λ (k : ℕ). compares (from k (n - (j + 1))) (drop k after)) (add-one j) ∙ pulled (pull-taken (may j) (alike j) places stop inside v e);
        }
