-- Distinct numbers: each stands at its first place. Assumes nothing.
use Rattle.std.specs.Prelude.{◌≡◌, ◌≢◌, List, [], ◌∷◌, ℕ, zero, suc, ◌<◌, length, get_or}
use Rattle.std.proofs.Common.{sym, ap, ◌∙◌, le_of_suc-le-suc, arith}
use Rattle.std.proofs.Math.Decide.{ℕ_discrete}
use Rattle.rules.specs.Queues.{before}
use Rattle.rules_laws.specs.All.{All}
use Rattle.rules_laws.specs.InRange.{Absent, Distinct, DistinctIds}
use Rattle.rules_laws.specs.Lists.{before-first, before-later}

absent-at : (x : ℕ) (l : List ℕ) (i : ℕ) → Absent x l → i < length l → get_or l i 0 ≢ x
absent-at x [] i a h = absurd (omega arith)
absent-at x (y ∷ l) zero a h = a.0
absent-at x (y ∷ l) (suc i) a h = absent-at x l i a.1 (le_of_suc-le-suc h)

absent-from : (x : ℕ) (l : List ℕ) → ((i : ℕ) → i < length l → get_or l i 0 ≢ x) → Absent x l
absent-from x [] h = tt
absent-from x (y ∷ l) h = (h 0 (omega arith), absent-from x l (λ i k. h (suc i) (omega arith)))

-- ---- every number above 0

pub ids-first : (l : List ℕ) → DistinctIds l → (i : ℕ) → i < length l → get_or l i 0 ≢ 0 → before (get_or l i 0) l ≡ i
ids-first [] h i k z = absurd (omega arith)
ids-first (x ∷ l) h zero k z = before-first x l
ids-first (x ∷ l) h (suc i) k z =
    let j : i < length l = le_of_suc-le-suc k in
    let other : get_or l i 0 ≢ x = λ e. absent-at x l i (h.0 (λ o. z (e ∙ o))) j e in
    before-later (get_or l i 0) x l other ∙ ap suc (ids-first l h.1 i j z)

pub first-ids : (l : List ℕ) → ((i : ℕ) → i < length l → get_or l i 0 ≢ 0 → before (get_or l i 0) l ≡ i) → DistinctIds l
first-ids [] h = tt
first-ids (x ∷ l) h = ((λ z. absent-from x l (λ i k e. apart i k (λ o. z (sym e ∙ o)) e)), first-ids l (λ i k z. later i k z (ℕ_discrete (get_or l i 0) x)))
  where
    apart : (i : ℕ) → i < length l → get_or l i 0 ≢ 0 → get_or l i 0 ≢ x
    apart i k z e = let a = h (suc i) (omega arith) z in let b : before (get_or l i 0) (x ∷ l) ≡ 0 = rw e (before-first x l) in absurd (omega arith)

    later : (i : ℕ) → i < length l → get_or l i 0 ≢ 0 → Dec (get_or l i 0 ≡ x) → before (get_or l i 0) l ≡ i
    later i k z (yes e) = absurd (apart i k z e)
    later i k z (no o) = let a = h (suc i) (omega arith) z in let b = before-later (get_or l i 0) x l o in omega arith

-- ---- numbers that are all above 0

pub ids-of : (l : List ℕ) → Distinct l → DistinctIds l
ids-of [] h = tt
ids-of (x ∷ l) h = ((λ z. h.0), ids-of l h.1)

pub distinct_of : (l : List ℕ) → All (λ x. x ≢ 0) l → DistinctIds l → Distinct l
distinct_of [] z h = tt
distinct_of (x ∷ l) z h = (h.0 z.0, distinct_of l z.1 h.1)
