-- Where no pair is in doubt, the order of no two dependent records is open. Assumes nothing.
use Rattle.std.specs.Prelude.{◌≡◌, refl, Bool, true, false, not, List, [], ◌∷◌, ◌++◌, map, ℕ, zero, suc, ◌+◌, ◌-◌, ◌≤◌, ◌<◌, T, length, get_or}
use Rattle.std.proofs.Common.{sym, ap, ◌∙◌, true≢false, arith}
use Rattle.std.proofs.Math.Decide.{ℕ_discrete}
use Rattle.rules_laws.specs.All.{All}
use Rattle.merge_verdict.specs.Pairs.{kept, only}
use Rattle.merge_verdict.specs.Clocks.{Logged, clocks, fixed, NoDoubt}
use Rattle.any_search.specs.Places.{from}
use Rattle.log_read.specs.Log.{Row}
use Rattle.log_records.specs.Rows.{no_row, merged}
use Rattle.log_doubts.specs.declared.Pair.{Pair}
use Rattle.log_doubts.specs.Doubts.{in_doubt, doubt_at, pairs_with, pairs, doubts}

-- ---- no pair passes the test

both-none : {A : Type 0} (a b : List A) → a ++ b ≡ [] → (a ≡ []) × (b ≡ [])
both-none [] b e = (refl, e)
both-none (x ∷ a) b e = absurd (let z : ◌≡◌ {A = ℕ} 0 1 = cc in omega arith)

only-empty : (test : ℕ → Bool) (f : ℕ → Pair) (a k : ℕ) → map f (only test (from a k)) ≡ [] → (j : ℕ) → a ≤ j → j < a + k → test j ≡ false
only-empty test f a zero e j l u = absurd (omega arith)
only-empty test f a (suc k) e j l u = go (test a) refl e (ℕ_discrete a j) (λ i. only-empty test f (suc a) k i j)
  where
    go : (b : Bool) → test a ≡ b → map f (kept b a (only test (from (suc a) k))) ≡ [] → Dec (a ≡ j)
        → (map f (only test (from (suc a) k)) ≡ [] → suc a ≤ j → j < suc a + k → test j ≡ false) → test j ≡ false
    go true i n d next = absurd (let z : ◌≡◌ {A = ℕ} 0 1 = cc in omega arith)
    go false i n (yes s) next = ap test (sym s) ∙ i
    go false i n (no d) next = next n (omega arith) (omega arith)

pairs-empty : (test : ℕ → ℕ → Bool) (n a k : ℕ) → a + k ≡ n → pairs test n (from a k) ≡ [] → (x y : ℕ) → a ≤ x → x < y → y < n → test x y ≡ false
unfolding pairs
pairs-empty test n a zero i e x y l u v = absurd (omega arith)
pairs-empty test n a (suc k) i e x y l u v =
    go (both-none (pairs_with test n a (from (suc a) (n - suc a))) (pairs test n (from (suc a) k)) e) (ℕ_discrete a x) (λ s. pairs-empty test n (suc a) k (omega arith) s x y)
  where
    go : (pairs_with test n a (from (suc a) (n - suc a)) ≡ []) × (pairs test n (from (suc a) k) ≡ []) → Dec (a ≡ x)
        → (pairs test n (from (suc a) k) ≡ [] → suc a ≤ x → x < y → y < n → test x y ≡ false) → test x y ≡ false
    go b (yes s) next = ap (λ (z : ℕ). test z y) (sym s) ∙ only-empty (test a) (λ y. record { x = a; y = y }) (suc a) (n - suc a) b.0 y (omega arith) (omega arith)
    go b (no d) next = next b.1 (omega arith) u v

-- ---- so nothing is in doubt

all-fixed : (P : Logged → Type 0) (rows : List Row) → ((i : ℕ) → i < length rows → P (get_or rows i no_row).logged) → All P (merged rows)
all-fixed P [] f = tt
all-fixed P (r ∷ rows) f = (f 0 (omega arith), all-fixed P rows (λ i h. f (suc i) (omega arith)))

nothing-in-doubt : (count : ℕ) (may : Logged → Logged → Bool) (rows : List Row)
    → ((x y : ℕ) → x < y → y < length rows → T (fixed count may (get_or rows x no_row).logged (get_or rows y no_row).logged)) → NoDoubt count may (merged rows)
nothing-in-doubt count may [] f = tt
nothing-in-doubt count may (r ∷ rows) f = (
  all-fixed (λ y. T (fixed count may r.logged y)) rows (λ i h. f 0 (suc i) (omega arith) (omega arith)),
  nothing-in-doubt count may rows (λ x y u v. f (suc x) (suc y) (omega arith) (omega arith)),
)

pub no-doubt : (count bound : ℕ) (rows : List Row) → doubts count bound rows ≡ [] → NoDoubt count (clocks bound) (merged rows)
unfolding in_doubt
no-doubt count bound rows e =
    nothing-in-doubt count (clocks bound) rows
    (λ x y u v. is-fixed (fixed count (clocks bound) (get_or rows x no_row).logged (get_or rows y no_row).logged)
    (pairs-empty (doubt_at count bound rows) (length rows) 0 (length rows) (omega arith) e x y (omega arith) u v))
  where
    is-fixed : (b : Bool) → not b ≡ false → T b
    is-fixed true i = tt
    is-fixed false i = absurd (let z : ◌≡◌ {A = Bool} true false = i in true≢false z)
