-- A Boolean test and what it says, put together from the tests that it is made of. Assumes nothing.
use Rattle.std.specs.Prelude.{◌≡◌, refl, ◌≢◌, Bool, true, false, not, ◌&&◌, ◌||◌, List, [], ◌∷◌, ℕ, zero, suc, ◌≤◌, ◌<◌, T, leb, ltb, eqb}
use Rattle.std.proofs.Common.{sym, true≢false, arith, leb→le, le→leb, ltb→lt, lt→ltb, eqb→eq, eq-eqb, ne_eqb}
use Rattle.std.proofs.Math.Decide.{ℕ_discrete}
use Rattle.rules.specs.Queues.{empty, has}
use Rattle.rules.specs.Range.{all, each, within, distinct, distinct_ids}
use Rattle.rules_laws.specs.All.{All}
use Rattle.rules_laws.specs.InRange.{Absent, Distinct, DistinctIds, Within}

-- The test is true exactly when P holds.
pub record Is (b : Bool) (P : Type 0) : Type 0 where
  pub to : T b → P
  pub from : P → T b

pub is-map : {b : Bool} {P Q : Type 0} → (P → Q) → (Q → P) → Is b P → Is b Q
is-map f g h = record { to = λ t. f (h.to t); from = λ q. h.from (g q) }

infixl 40 ◌&◌
pub ◌&◌ : {a b : Bool} {P Q : Type 0} → Is a P → Is b Q → Is (a && b) (P × Q)
◌&◌ {a = true} h k = record { to = λ t. (h.to tt, k.to t); from = λ p. k.from p.1 }
◌&◌ {a = false} h k = record { to = λ t. absurd t; from = λ p. h.from p.0 }

-- Neither, of two.
pub is-neither : (a b : Bool) {P Q : Type 0} → Is (not a) P → Is (not b) Q → Is (not (a || b)) (P × Q)
is-neither true b h k = record { to = λ t. absurd t; from = λ p. h.from p.0 }
is-neither false b h k = record { to = λ t. (h.to tt, k.to t); from = λ p. k.from p.1 }

-- Or, read as: unless the first holds, the second.
pub is-unless : (a : Bool) {b : Bool} {P Q : Type 0} → Is (not a) P → Is b Q → Is (a || b) (P → Q)
is-unless true h k = record { to = λ t p. absurd (h.from p); from = λ f. tt }
is-unless false h k = record { to = λ t p. k.to t; from = λ f. k.from (f (h.to tt)) }

-- ---- of a truth value

pub as-is : (b : Bool) → Is b (T b)
as-is b = record { to = λ t. t; from = λ t. t }

pub is-yes : (b : Bool) → Is b (b ≡ true)
is-yes true = record { to = λ t. refl; from = λ e. tt }
is-yes false = record { to = λ t. absurd t; from = λ e. true≢false (sym e) }

pub is-not : (b : Bool) → Is (not b) (b ≡ false)
is-not true = record { to = λ t. absurd t; from = λ e. true≢false e }
is-not false = record { to = λ t. refl; from = λ e. tt }

-- ---- of numbers

pub is_le : (a b : ℕ) → Is (leb a b) (a ≤ b)
is_le a b = record { to = leb→le a b; from = le→leb a b }

pub is_lt : (a b : ℕ) → Is (ltb a b) (a < b)
is_lt a b = record { to = ltb→lt a b; from = lt→ltb a b }

pub is_eq : (a b : ℕ) → Is (eqb a b) (a ≡ b)
is_eq a b = record { to = eqb→eq a b; from = λ e. rw (eq-eqb a b e) tt }

pub is_ne : (a b : ℕ) → Is (not (eqb a b)) (a ≢ b)
is_ne a b = record { to = λ t e. rw (eq-eqb a b e) at t; from = λ n. rw (ne_eqb a b n) tt }

pub is_within : (low high x : ℕ) → Is (within low high x) (Within low high x)
unfolding within
is_within low high x = is-map (λ t. record { lower = t.0; upper = t.1 }) (λ k. (k.lower, k.upper)) (is_le low x & is_le x high)

-- ---- of lists

pub is-empty : {A : Type 0} (l : List A) → Is (empty l) (l ≡ [])
unfolding empty
is-empty [] = record { to = λ t. refl; from = λ e. tt }
is-empty (x ∷ l) = record { to = λ t. absurd t; from = λ e. let z : ◌≡◌ {A = ℕ} 0 1 = cc in omega arith }

pub is_all : {A : Type 0} {p : A → Bool} {P : A → Type 0} → ((x : A) → Is (p x) (P x)) → (l : List A) → Is (all p l) (All P l)
unfolding all
is_all h [] = record { to = λ t. tt; from = λ t. tt }
is_all h (x ∷ l) = h x & is_all h l

pub is-each : {p : ℕ → Bool} {P : ℕ → Type 0} → ((i : ℕ) → Is (p i) (P i)) → (n : ℕ) → Is (each n p) ((i : ℕ) → i < n → P i)
unfolding each
is-each h zero = record { to = λ t i l. absurd (omega arith); from = λ f. tt }
is-each {p} {P} h (suc n) = is-map (λ q i l. at q i l (ℕ_discrete i n)) (λ f. (f n (omega arith), λ i l. f i (omega arith))) (h n & is-each h n)
  where
    at : P n × ((i : ℕ) → i < n → P i) → (i : ℕ) → i < suc n → Dec (i ≡ n) → P i
    at q i l (yes e) = rw e q.0
    at q i l (no z) = q.1 i (omega arith)

pub is-absent : (n : ℕ) (l : List ℕ) → Is (not (has n l)) (Absent n l)
unfolding has
is-absent n [] = record { to = λ t. tt; from = λ t. tt }
is-absent n (x ∷ l) = is-neither (eqb n x) (has n l) (is-map (λ z e. z (sym e)) (λ z e. z (sym e)) (is_ne n x)) (is-absent n l)

pub is-distinct : (l : List ℕ) → Is (distinct l) (Distinct l)
unfolding distinct
is-distinct [] = record { to = λ t. tt; from = λ t. tt }
is-distinct (x ∷ l) = is-absent x l & is-distinct l

pub is-distinct-ids : (l : List ℕ) → Is (distinct_ids l) (DistinctIds l)
unfolding distinct_ids
is-distinct-ids [] = record { to = λ t. tt; from = λ t. tt }
is-distinct-ids (x ∷ l) = is-unless (eqb x 0) (is_ne x 0) (is-absent x l) & is-distinct-ids l
