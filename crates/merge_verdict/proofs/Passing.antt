-- Exchanges of neighbours of different logs, where the clocks allow the other order, keep a merge one that they allow; and so is a merge that is sorted by
-- time. Assumes nothing.
use Rattle.std.specs.Prelude.{refl, Bool, List, [], ◌∷◌, ℕ, zero, suc, ◌+◌, ◌≤◌, T, eqb}
use Rattle.std.proofs.Common.{sym, ap, subst, ◌∙◌, arith, eqb→eq, le-leb}
use Rattle.rules_laws.specs.All.{All}
use Rattle.rules_laws.specs.Lists.{all-each}
use Rattle.rules_exchange.specs.Claim.{swap_at, swaps, Neighbours, Allowed}
use Rattle.merge_verdict.specs.Pairs.{kept}
use Rattle.merge_verdict.specs.Clocks.{Logged, of_log, SameLogs, clocks, Timely, MayPass, StillAllowed, Sorted, SortedAllowed}
use Rattle.merge_verdict.specs.Kept.{kept-swap}

-- ---- one exchange

module _ (may : Logged → Logged → Bool) where
  all-swapped : (P : Logged → Type 0) (i : ℕ) (l : List Logged) → All P l → All P (swap_at i l)
  all-swapped P i [] h = h
  all-swapped P zero (x ∷ []) h = h
  all-swapped P zero (x ∷ y ∷ l) h = (h.1.0, (h.0, h.1.1))
  all-swapped P (suc i) (x ∷ l) h = (h.0, all-swapped P i l h.1)

  same-swapped : (i : ℕ) (l : List Logged) → Neighbours (MayPass may) i l → SameLogs l (swap_at i l)
  same-swapped i [] r n = absurd r
  same-swapped zero (x ∷ []) r n = absurd r
  same-swapped zero (x ∷ y ∷ l) r n =
      kept-swap (eqb n x.log) (eqb n y.log) x y (of_log n l) (λ a b. r.0 (sym (eqb→eq n x.log a) ∙ eqb→eq n y.log b))
  same-swapped (suc i) (x ∷ l) r n = ap (kept (eqb n x.log) x) (same-swapped i l r n)

  timely-swapped : (i : ℕ) (l : List Logged) → Neighbours (MayPass may) i l → Timely may l → Timely may (swap_at i l)
  timely-swapped i [] r t = absurd r
  timely-swapped zero (x ∷ []) r t = absurd r
  timely-swapped zero (x ∷ y ∷ l) r t = ((r.1, t.1.0), (t.0.1, t.1.1))
  timely-swapped (suc i) (x ∷ l) r t = (all-swapped (λ y. T (may x y)) i l t.0, timely-swapped i l r t.1)

  -- ---- all of them

  each : (is : List ℕ) (l : List Logged) → Allowed (MayPass may) is l → Timely may l → SameLogs l (swaps is l) × Timely may (swaps is l)
  each [] l a t = ((λ n. refl), t)
  each (i ∷ is) l a t =
      let next = each is (swap_at i l) a.1 (timely-swapped i l a.0 t) in
      ((λ n. same-swapped i l a.0 n ∙ next.0 n), next.1)

pub still-allowed : StillAllowed
still-allowed may es fs p t = subst (λ l. SameLogs es l × Timely may l) p.ends (each may p.places es p.allowed t)

-- ---- sorted

module _ (d : ℕ) where
  -- What is not later than the first record is not later than any.
  before-all : (time : ℕ) (y : Logged) (l : List Logged) → time ≤ y.time → Sorted (y ∷ l) → All (λ z. time ≤ z.time) (y ∷ l)
  before-all time y [] h s = (h, tt)
  before-all time y (z ∷ l) h s = (h, before-all time z l (let k = s.0 in omega arith) s.1)

  may-all : (x : Logged) (l : List Logged) → All (λ z. x.time ≤ z.time) l → All (λ z. T (clocks d x z)) l
  may-all x l h = all-each (λ z k. rw (le-leb x.time (z.time + d) (omega arith)) tt) l h

  timely : (es : List Logged) → Sorted es → Timely (clocks d) es
  timely [] s = tt
  timely (x ∷ []) s = (tt, tt)
  timely (x ∷ y ∷ l) s = (may-all x (y ∷ l) (before-all x.time y l s.0 s.1), timely (y ∷ l) s.1)

pub sorted-allowed : SortedAllowed
sorted-allowed d es s = timely d es s
