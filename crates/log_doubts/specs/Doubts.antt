-- The records of a merged log that are in doubt: two of them, of different logs and dependent, whose clocks allow the other order.
use Rattle.std.specs.Prelude.{Bool, not, List, [], ◌∷◌, ◌++◌, map, ℕ, suc, ◌-◌, length, get_or}
use Rattle.merge_verdict.specs.Pairs.{only}
use Rattle.merge_verdict.specs.Clocks.{clocks, fixed}
use Rattle.any_search.specs.Places.{from}
use Rattle.log_read.specs.Log.{Row}
use Rattle.log_records.specs.Rows.{no_row}
use Rattle.log_doubts.specs.declared.Pair.{Pair}

-- ---- two records

-- x stands before y. Among `count` nodes, and with clocks at most `bound` apart.
unfoldable pub in_doubt : ℕ → ℕ → Row → Row → Bool
in_doubt count bound x y = not (fixed count (clocks bound) x.logged y.logged)

abbrev pub doubt_at : ℕ → ℕ → List Row → ℕ → ℕ → Bool
doubt_at count bound rows x y = in_doubt count bound (get_or rows x no_row) (get_or rows y no_row)

-- ---- all pairs of places that pass a test, in order

module _ (test : ℕ → ℕ → Bool) (n : ℕ) where
  abbrev pub pairs_with : ℕ → List ℕ → List Pair
  pairs_with x ys = map (λ y. record { x = x; y = y }) (only (test x) ys)

  -- Each of these places with all behind it, up to the n-th.
  unfoldable pub pairs : List ℕ → List Pair
  pairs [] = []
  pairs (x ∷ xs) = pairs_with x (from (suc x) (n - suc x)) ++ pairs xs

-- The pairs in doubt, by the places of their records.
abbrev pub doubts : ℕ → ℕ → List Row → List Pair
doubts count bound rows = pairs (doubt_at count bound rows) (length rows) (from 0 (length rows))
