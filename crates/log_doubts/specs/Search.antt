-- The pairs in doubt as a search finds them, one after another. Assumes nothing.
use Rattle.std.specs.Prelude.{◌≡◌, refl, Bool, true, false, cond, ◌&&◌, List, [], ◌∷◌, ◌++◌, map, ltb}
use Rattle.std.proofs.Common.{sym, ap₂, ◌∙◌, add-one, le-ltb}
use Rattle.std.proofs.Math.Path.{ap}
use Prim.Native.Nat.{ℕ, zero, suc, ◌+◌, ◌*◌, ◌-◌, ◌≤◌, ◌<◌}
use native.Mathlib.Omega.{arith}
use Rattle.std.proofs.Math.Decide.{dec_lt}
use Rattle.rules.specs.Step.{Event}
use Rattle.merge_verdict.specs.Pairs.{kept, only}
use Rattle.merge_letters.specs.Letters.{letter_of}
use Rattle.any_search.specs.Places.{from}
use Rattle.log_read.specs.declared.Record.{Record}
use Rattle.log_doubts.specs.declared.Pair.{Pair}
use Rattle.log_records.specs.Rows.{row_at, rows_of}
use Rattle.log_records.specs.Places.{rows-get}
use Rattle.log_doubts.specs.Doubts.{in_doubt, doubt_at, pairs_with, pairs}

-- ---- two records

pub doubt-in-rows : (count bound : ℕ) (l : List Record) (x y : ℕ) → in_doubt count bound (row_at l x) (row_at l y) ≡ doubt_at count bound (rows_of l) x y
doubt-in-rows count bound l x y = sym (ap₂ (in_doubt count bound) (rows-get l x) (rows-get l y))

-- ---- places that pass a test

only_none : (test : ℕ → Bool) (end a k : ℕ) → a + k ≡ end → ((j : ℕ) → a ≤ j → j < end → test j ≡ false) → only test (from a k) ≡ []
only_none test end a zero i f = refl
only_none test end a (suc k) i f = rw (f a (omega arith) (omega arith)) (only_none test end (suc a) k (omega arith) (λ j l u. f j (omega arith) u))

-- ---- pairs

module _ (test : ℕ → ℕ → Bool) (n x : ℕ) where
  -- The pairs of x from y on.
  abbrev pub pairs_at : ℕ → List Pair
  pairs_at y = pairs_with test n x (from y (n - y))

  at-place : (y : ℕ) → y < n → from y (n - y) ≡ y ∷ from (suc y) (n - suc y)
  at-place y h = let rest : n - y ≡ suc (n - suc y) = omega arith in ap (from y) rest

  pub pair-here : {y : ℕ} → y < n → test x y ≡ true → pairs_at y ≡ record { x = x; y = y } ∷ pairs_at (y + 1)
  pair-here {y} h e = rw (add-one y) (ap (λ (ys : List ℕ). pairs_with test n x ys) (at-place y h) ∙ ap (λ (b : Bool). map (λ y. record { x = x; y = y }) (kept b y (only (test x) (from (suc y) (n - suc y))))) e)

  pub pair-none : {y : ℕ} → y < n → test x y ≡ false → pairs_at y ≡ pairs_at (y + 1)
  pair-none {y} h e = rw (add-one y) (ap (λ (ys : List ℕ). pairs_with test n x ys) (at-place y h) ∙ ap (λ (b : Bool). map (λ y. record { x = x; y = y }) (kept b y (only (test x) (from (suc y) (n - suc y))))) e)

  pub pairs-over : {y : ℕ} → ((j : ℕ) → y ≤ j → j < n → test x j ≡ false) → pairs_at y ≡ []
  pairs-over {y} f = go (dec_lt y n)
    where
      go : Dec (y < n) → pairs_at y ≡ []
      go (yes h) = ap (λ (ys : List ℕ). map (λ z. record { x = x; y = z }) ys) (only_none (test x) n y (n - y) (omega arith) f)
      go (no h) = let none : n - y ≡ 0 = omega arith in rw none

  pub pairs-first : x < n → pairs test n (from x (n - x)) ≡ pairs_at (x + 1) ++ pairs test n (from (x + 1) (n - (x + 1)))
  unfolding pairs
  pairs-first h = let rest : n - x ≡ suc (n - suc x) = omega arith in rw (add-one x) (ap (λ (m : ℕ). pairs test n (from x m)) rest)

  pub pairs-end : n - x ≡ 0 → pairs test n (from x (n - x)) ≡ []
  unfolding pairs
  pairs-end e = ap (λ (m : ℕ). pairs test n (from x m)) e

-- ---- letters

and_none : (b : Bool) → b && false ≡ false
and_none true = refl
and_none false = refl

module _ (e : Event) where
  letter-unknown : ltb e.kind 14 && ltb e.node 9 ≡ false → 0 ≡ letter_of e
  letter-unknown t = ap (λ (b : Bool). cond b (9 * e.kind + e.node) 0) (sym t)

  -- Kinds and nodes that do not fit a byte have no letter.
  pub large-kind : 256 ≤ e.kind → 0 ≡ letter_of e
  large-kind h = letter-unknown (ap (λ (b : Bool). b && ltb e.node 9) (le-ltb e.kind 14 (omega arith)))

  pub large-node : 256 ≤ e.node → 0 ≡ letter_of e
  large-node h = letter-unknown (ap (λ (b : Bool). ltb e.kind 14 && b) (le-ltb e.node 9 (omega arith)) ∙ and_none (ltb e.kind 14))
