-- What a test of every place says of the places in use and of those behind them. Assumes nothing.
use Rattle.std.specs.Prelude.{◌≡◌, refl, Bool, true, false, ◌&&◌, List, [], ◌∷◌, map, ℕ, zero, suc, ◌≤◌, ◌<◌, T, length, get_or, take, drop}
use Rattle.std.proofs.Common.{arith, lt-ltb, le-ltb}
use Rattle.std.proofs.Math.Decide.{dec_lt}
use Rattle.rules.specs.Range.{all, each}
use Rattle.rules_laws.specs.All.{All}
use Rattle.rules_laws.specs.Tests.{Is, is-map, ◌&◌, as-is, is_le, is-each}
use Rattle.rules_laws.specs.Lists.{all-with}
use Rattle.step_bridge.specs.Rows.{all_take, all_drop, taken_at, dropped-at}
use Rattle.step_range_queues.specs.Tests.{place, places_test}

-- Two tests that say the same are the same.
pub agree : {P : Type 0} (a b : Bool) → Is a P → Is b P → a ≡ b
agree true true h k = refl
agree true false h k = absurd (k.from (h.to tt))
agree false true h k = absurd (h.from (k.to tt))
agree false false h k = refl

-- A test that is made only where the one before it holds.
pub is-then : {a b : Bool} {P Q : Type 0} → Is a P → (P → Is b Q) → Is (a && b) (P × Q)
is-then {a = true} h k = record { to = λ t. (h.to tt, (k (h.to tt)).to t); from = λ p. (k p.0).from p.1 }
is-then {a = false} h k = record { to = λ t. absurd t; from = λ p. h.from p.0 }

module _ {A : Type 0} (P : A → Type 0) where
  pub all-taken : (n : ℕ) (l : List A) (d : A) → ((i : ℕ) → i < n → i < length l → P (get_or l i d)) → All P (take n l)
  all-taken zero l d h = tt
  all-taken (suc n) [] d h = tt
  all-taken (suc n) (x ∷ l) d h = (h 0 (omega arith) (omega arith), all-taken n l d (λ i j k. h (suc i) (omega arith) (omega arith)))

  pub all-dropped : (n : ℕ) (l : List A) (d : A) → ((i : ℕ) → n ≤ i → i < length l → P (get_or l i d)) → All P (drop n l)
  all-dropped zero [] d h = tt
  all-dropped zero (x ∷ l) d h = (h 0 (omega arith) (omega arith), all-dropped zero l d (λ i j k. h (suc i) (omega arith) (omega arith)))
  all-dropped (suc n) [] d h = tt
  all-dropped (suc n) (x ∷ l) d h = all-dropped n l d (λ i j k. h (suc i) (omega arith) (omega arith))

  pub all-mapped : {B : Type 0} (f : B → A) (l : List B) → All (λ x. P (f x)) l → All P (map f l)
  all-mapped f [] h = tt
  all-mapped f (x ∷ l) h = (h.0, all-mapped f l h.1)

  pub all-unmapped : {B : Type 0} (f : B → A) (l : List B) → All P (map f l) → All (λ x. P (f x)) l
  all-unmapped f [] h = tt
  all-unmapped f (x ∷ l) h = (h.0, all-unmapped f l h.1)

-- Of elements of which something is known.
pub is-all-known : {A : Type 0} (p : A → Bool) (K P : A → Type 0) → ((x : A) → K x → Is (p x) (P x)) → (l : List A) → All K l → Is (all p l) (All P l)
unfolding all
is-all-known p K P f [] k = record { to = λ t. tt; from = λ t. tt }
is-all-known p K P f (x ∷ l) k = f x k.0 & is-all-known p K P f l k.1

module _ {B : Type 0} (used behind : B → Bool) (d : B) (l : List B) (len size : ℕ) (sized : length l ≡ size) where
  pub is-each-place : Is (each size (place used behind d l len)) (All (λ x. T (used x)) (take len l) × All (λ x. T (behind x)) (drop len l))
  is-each-place = is-map there back (is-each (λ i. as-is (place used behind d l len i)) size)
    where
      there : ((i : ℕ) → i < size → T (place used behind d l len i)) → All (λ x. T (used x)) (take len l) × All (λ x. T (behind x)) (drop len l)
      there f = (
        all-taken (λ x. T (used x)) len l d (λ i j k. rw (lt-ltb i len j) at (f i (omega arith))),
        all-dropped (λ x. T (behind x)) len l d (λ i j k. rw (le-ltb i len j) at (f i (omega arith))),
      )

      at_place : All (λ x. T (used x)) (take len l) × All (λ x. T (behind x)) (drop len l) → (i : ℕ) → i < size → Dec (i < len) → T (place used behind d l len i)
      at_place h i k (yes j) = rw (lt-ltb i len j) (taken_at (λ x. T (used x)) len i l d h.0 j (omega arith))
      at_place h i k (no j) = let z : len ≤ i = omega arith in rw (le-ltb i len z) (dropped-at (λ x. T (behind x)) len i l d h.1 z (omega arith))

      back : All (λ x. T (used x)) (take len l) × All (λ x. T (behind x)) (drop len l) → (i : ℕ) → i < size → T (place used behind d l len i)
      back h i k = at_place h i k (dec_lt i len)

  -- With what is known of each element, and what the tests of an element say.
  module _ (K P Q : B → Type 0) (is-used : (x : B) → K x → Is (used x) (P x)) (is-behind : (x : B) → K x → Is (behind x) (Q x)) (known : All K l) where
    pub is-places : Is (each size (place used behind d l len)) (All P (take len l) × All Q (drop len l))
    is-places =
        let k = all_take K len l known in
        let k' = all_drop K len l known in
        is-map
        (λ h. (all-with (λ x a t. (is-used x a).to t) (take len l) k h.0, all-with (λ x a t. (is-behind x a).to t) (drop len l) k' h.1))
        (λ h. (all-with (λ x a t. (is-used x a).from t) (take len l) k h.0, all-with (λ x a t. (is-behind x a).from t) (drop len l) k' h.1))
        is-each-place

    pub is-places-test : Is (places_test size used behind d l len) ((len ≤ size) × (All P (take len l) × All Q (drop len l)))
    unfolding places_test
    is-places-test = is_le len size & is-places
