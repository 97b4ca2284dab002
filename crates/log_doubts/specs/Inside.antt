-- The pairs that were put down, read back; and that their records are in the log, in its order. Assumes nothing.
use Rattle.std.specs.Prelude.{◌≡◌, Bool, true, false, List, [], ◌∷◌, map, length, get_or, take}
use Rattle.std.proofs.Common.{arith, length-take, get_or-take}
use Prim.Native.Nat.{ℕ, zero, suc, ◌+◌, ◌-◌, ◌<◌}
use Rattle.rules_laws.specs.All.{All}
use Rattle.rules_laws.specs.Lists.{all_append}
use Rattle.merge_verdict.specs.Pairs.{kept, only}
use Rattle.any_search.specs.Places.{from}
use Rattle.log_read.specs.declared.Record.{Record}
use Rattle.log_records.specs.Rows.{rows_of}
use Rattle.log_doubts.specs.declared.Pair.{Pair}
use Rattle.log_doubts.specs.Doubts.{doubt_at, pairs_with, pairs, doubts}
use Rattle.log_doubts.specs.Found.{most_pairs, doubts-all}

abbrev pub no_pair : Pair
no_pair = record { x = 0; y = 0 }

-- ---- inside

abbrev pub Inside : ℕ → Pair → Type 0
Inside n p = (p.x < p.y) × (p.y < n)

module _ (test : ℕ → ℕ → Bool) (n : ℕ) where
  with-inside : (x a k : ℕ) → x < a → a + k ≡ n → All (Inside n) (pairs_with test n x (from a k))
  with-inside x a zero h e = tt
  with-inside x a (suc k) h e = go (test x a) (with-inside x (suc a) k (omega arith) (omega arith))
    where
      go : (b : Bool) → All (Inside n) (pairs_with test n x (from (suc a) k)) → All (Inside n) (map (λ y. record { x = x; y = y }) (kept b a (only (test x) (from (suc a) k))))
      go true r = ((h, omega arith), r)
      go false r = r

  pub pairs-inside : (a k : ℕ) → a + k ≡ n → All (Inside n) (pairs test n (from a k))
  unfolding pairs
  pairs-inside a zero e = tt
  pairs-inside a (suc k) e =
      all_append (Inside n) (pairs_with test n a (from (suc a) (n - suc a))) (pairs test n (from (suc a) k)) (with-inside a (suc a) (n - suc a) (omega arith) (omega arith)) (pairs-inside (suc a) k (omega arith))

all-at : (P : Pair → Type 0) (ps : List Pair) → All P ps → (i : ℕ) → i < length ps → P (get_or ps i no_pair)
all-at P [] a i h = absurd (omega arith)
all-at P (p ∷ ps) a zero h = a.0
all-at P (p ∷ ps) a (suc i) h = all-at P ps a.1 i (omega arith)

pub doubts-inside : (count bound : ℕ) (l : List Record) (i : ℕ) → i < length (take most_pairs (doubts count bound (rows_of l))) → Inside (length l) (get_or (take most_pairs (doubts count bound (rows_of l))) i no_pair)
doubts-inside count bound l i h =
    let ds = doubts count bound (rows_of l) in
    let n = length-take most_pairs ds in
    let few : i < most_pairs = omega arith in
    let fewer : i < length ds = omega arith in
    let inside : All (Inside (length l)) ds = rw (← doubts-all count bound l) (pairs-inside (doubt_at count bound (rows_of l)) (length l) 0 (length l) (omega arith)) in
    rw (get_or-take most_pairs ds i no_pair few) (all-at (Inside (length l)) ds inside i fewer)
