-- Laws of lists and queues: what holds of every element still does after a step has pushed, taken off, stored or removed one. Assumes nothing.
use Rattle.std.specs.Prelude.{◌≡◌, refl, ◌≢◌, Bool, not, ◌||◌, get_or, set, replicate, eqb}
use Rattle.std.proofs.Common.{sym, ◌∙◌, length-append, eq-eqb, ne_eqb}
use Rattle.std.proofs.Math.Bool.{true, false, cond}
use mathlib.Core.List.{List, [], ◌∷◌, ◌++◌}
use Prim.Native.Nat.{ℕ, zero, suc, ◌≤◌, ◌<◌}
use native.Mathlib.Omega.{arith}
use Rattle.std.proofs.Math.Decide.{ℕ_discrete}
use Rattle.std.proofs.Math.ListN.{length}
use Rattle.std.proofs.Math.Dec.{T}
use Rattle.rules.specs.Limits.{queue_length}
use Rattle.rules.specs.Queues.{push, first, rest, empty, room, has, remove, before}
use Rattle.rules_laws.specs.All.{All}
use Rattle.rules_laws.specs.InRange.{Absent, Distinct, DistinctIds, Within, QueueFits}
use Rattle.rules_laws.specs.Tests.{is_lt}

-- ---- every element

pub all-with : {A : Type 0} {P Q R : A → Type 0} → ((x : A) → P x → Q x → R x) → (l : List A) → All P l → All Q l → All R l
all-with f [] h k = tt
all-with f (x ∷ l) h k = (f x h.0 k.0, all-with f l h.1 k.1)

pub all-each : {A : Type 0} {P Q : A → Type 0} → ((x : A) → P x → Q x) → (l : List A) → All P l → All Q l
all-each f l h = all-with (λ x a b. f x a) l h h

module _ {A : Type 0} (P : A → Type 0) where
  pub all_append : (l m : List A) → All P l → All P m → All P (l ++ m)
  all_append [] m h k = k
  all_append (x ∷ l) m h k = (h.0, all_append l m h.1 k)

  pub all_push : (x : A) (l : List A) → P x → All P l → All P (push x l)
  unfolding push
  all_push x l p h = all_append l (x ∷ []) h (p, tt)

  pub all_replicate : (n : ℕ) (x : A) → P x → All P (replicate n x)
  all_replicate zero x p = tt
  all_replicate (suc n) x p = (p, all_replicate n x p)

  pub all_set : (l : List A) (i : ℕ) (x : A) → P x → All P l → All P (set l i x)
  all_set [] i x p h = tt
  all_set (y ∷ l) zero x p h = (p, h.1)
  all_set (y ∷ l) (suc i) x p h = (h.0, all_set l i x p h.1)

  pub all_get_d : (l : List A) (i : ℕ) (d : A) → P d → All P l → P (get_or l i d)
  all_get_d [] i d p h = p
  all_get_d (y ∷ l) zero d p h = h.0
  all_get_d (y ∷ l) (suc i) d p h = all_get_d l i d p h.1

  -- What is read after a store is what was stored, or what was there.
  pub at_set : (l : List A) (j i : ℕ) (x d : A) → P x → P (get_or l i d) → P (get_or (set l j x) i d)
  at_set [] j i x d p h = h
  at_set (y ∷ l) zero zero x d p h = p
  at_set (y ∷ l) zero (suc i) x d p h = h
  at_set (y ∷ l) (suc j) zero x d p h = h
  at_set (y ∷ l) (suc j) (suc i) x d p h = at_set l j i x d p h

-- One element, repeated, and the same where the list has ended.
pub replicate-at : {A : Type 0} (n : ℕ) (x : A) (i : ℕ) → get_or (replicate n x) i x ≡ x
replicate-at zero x i = refl
replicate-at (suc n) x zero = refl
replicate-at (suc n) x (suc i) = replicate-at n x i

-- ---- queues

module _ {A : Type 0} (P : A → Type 0) where
  pub queue-none : QueueFits P []
  queue-none = record { short = omega arith; items = tt }

  pub queue-rest : (q : List A) → QueueFits P q → QueueFits P (rest q)
  unfolding rest
  queue-rest [] h = h
  queue-rest (x ∷ q) h = record { short = let k : suc (length q) ≤ queue_length = h.short in omega arith; items = h.items.1 }

  pub queue-first : (other : A) (q : List A) → T (not (empty q)) → QueueFits P q → P (first other q)
  unfolding first empty
  queue-first other [] t h = absurd t
  queue-first other (x ∷ q) t h = h.items.0

  pub queue-push : (x : A) (q : List A) → P x → T (room q) → QueueFits P q → QueueFits P (push x q)
  unfolding room push
  queue-push x q p r h = record {
    short = rw (length-append q (x ∷ [])) (let k = (is_lt (length q) queue_length).to r in omega arith);
    items = all_push P x q p h.items;
  }

-- ---- distinct numbers

pub distinct_push : (n : ℕ) (l : List ℕ) → Absent n l → Distinct l → Distinct (push n l)
unfolding push
distinct_push n [] a h = (tt, tt)
distinct_push n (x ∷ l) a h = (all_push (λ y. y ≢ x) n l (λ e. a.0 (sym e)) h.0, distinct_push n l a.1 h.1)

module _ (n : ℕ) where
  pub all_remove : (P : ℕ → Type 0) (l : List ℕ) → All P l → All P (remove n l)
  unfolding remove
  all_remove P [] h = tt
  all_remove P (x ∷ l) h = go (eqb n x) (all_remove P l h.1)
    where
      go : (b : Bool) → All P (remove n l) → All P (cond b l (x ∷ remove n l))
      go true k = h.1
      go false k = (h.0, k)

  pub distinct_remove : (l : List ℕ) → Distinct l → Distinct (remove n l)
  unfolding remove
  distinct_remove [] h = tt
  distinct_remove (x ∷ l) h = go (eqb n x) (distinct_remove l h.1)
    where
      go : (b : Bool) → Distinct (remove n l) → Distinct (cond b l (x ∷ remove n l))
      go true k = h.1
      go false k = (all_remove (λ y. y ≢ x) l h.0, k)

  absent_remove : (l : List ℕ) → Distinct l → Absent n (remove n l)
  unfolding remove
  absent_remove [] h = tt
  absent_remove (x ∷ l) h = go (ℕ_discrete n x) (absent_remove l h.1)
    where
      go : Dec (n ≡ x) → Absent n (remove n l) → Absent n (cond (eqb n x) l (x ∷ remove n l))
      go (yes e) k = rw (eq-eqb n x e, e) h.0
      go (no z) k = rw (ne_eqb n x z) ((λ e. z (sym e)), k)

  length-remove : (l : List ℕ) → length l ≤ suc (length (remove n l))
  unfolding remove
  length-remove [] = omega arith
  length-remove (x ∷ l) = go (eqb n x) (length-remove l)
    where
      go : (b : Bool) → length l ≤ suc (length (remove n l)) → suc (length l) ≤ suc (length (cond b l (x ∷ remove n l)))
      go true k = omega arith
      go false k = omega arith

  pub before-below : (l : List ℕ) → T (has n l) → before n l < length l
  unfolding has before
  before-below [] h = absurd h
  before-below (x ∷ l) h = go (eqb n x) h (before-below l)
    where
      go : (b : Bool) → T (b || has n l) → (T (has n l) → before n l < length l) → cond b 0 (suc (before n l)) < suc (length l)
      go true h k = omega arith
      go false h k = let z = k h in omega arith

-- Distinct numbers of 1 to n are at most n.
pub pigeonhole : (n : ℕ) (l : List ℕ) → All (Within 1 n) l → Distinct l → length l ≤ n
pigeonhole zero [] a d = omega arith
pigeonhole zero (x ∷ l) a d = let y : 1 ≤ x = a.0.lower in let z : x ≤ 0 = a.0.upper in absurd (omega arith)
pigeonhole (suc n) l a d =
    let below = all-with down (remove (suc n) l) (all_remove (suc n) (Within 1 (suc n)) l a) (absent_remove (suc n) l d) in
    let k : length (remove (suc n) l) ≤ n = pigeonhole n (remove (suc n) l) below (distinct_remove (suc n) l d) in
    let z = length-remove (suc n) l in omega arith
  where
    down : (x : ℕ) → Within 1 (suc n) x → x ≢ suc n → Within 1 n x
    down x k z = let u : x ≤ suc n = k.upper in record { lower = k.lower; upper = omega arith }

-- ---- a search

pub before-first : (x : ℕ) (l : List ℕ) → before x (x ∷ l) ≡ 0
unfolding before
before-first x l = simp (eq-eqb x x refl)

pub before-later : (y x : ℕ) (l : List ℕ) → y ≢ x → before y (x ∷ l) ≡ suc (before y l)
unfolding before
before-later y x l h = simp (ne_eqb y x h)

-- ---- distinct ids

pub ids_set : (l : List ℕ) (i x : ℕ) → (x ≢ 0 → Absent x (set l i 0)) → DistinctIds l → DistinctIds (set l i x)
ids_set [] i x f h = tt
ids_set (y ∷ l) zero x f h = ((λ z. (f z).1), h.1)
ids_set (y ∷ l) (suc i) x f h = ((λ z. all_set (λ k. k ≢ y) l i x (λ e. (f (λ o. z (sym e ∙ o))).0 (sym e)) (h.0 z)), ids_set l i x (λ z. (f z).1) h.1)

-- By places: two places that hold one id are one place.
pub ids-places : (l : List ℕ) → DistinctIds l → (i j : ℕ) → get_or l i 0 ≢ 0 → get_or l i 0 ≡ get_or l j 0 → i ≡ j
ids-places [] h i j z e = absurd (z refl)
ids-places (x ∷ l) h zero zero z e = refl
ids-places (x ∷ l) h zero (suc j) z e = absurd (all_get_d (λ y. y ≢ x) l j 0 (λ o. z (sym o)) (h.0 z) (sym e))
ids-places (x ∷ l) h (suc i) zero z e = let n : x ≢ 0 = λ o. z (e ∙ o) in absurd (all_get_d (λ y. y ≢ x) l i 0 (λ o. n (sym o)) (h.0 n) e)
ids-places (x ∷ l) h (suc i) (suc j) z e = let k = ids-places l h.1 i j z e in cc
