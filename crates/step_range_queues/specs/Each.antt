-- The tests of a loop: each place below n passes, or one does not. Assumes nothing.
use Rattle.std.specs.Prelude.{◌≡◌, Bool, ◌&&◌, leb}
use Rattle.std.proofs.Math.Path.{refl}
use Rattle.std.proofs.Common.{sym, ap, ◌∙◌, arith, add-one, le-leb}
use Rattle.std.proofs.Math.Bool.{true, false}
use Prim.Native.Nat.{ℕ, zero, suc, ◌+◌, ◌≤◌, ◌<◌}
use Rattle.std.proofs.Math.Decide.{ℕ_discrete}
use Rattle.rules.specs.Range.{each}

-- What a call gives, and the test of what it gave.
pub from-result : {result given b : Bool} → result ≡ given → result ≡ b → given ≡ b
from-result e h = sym e ∙ h

module _ (p : ℕ → Bool) where
  -- One place more passes.
  pub each_more : (i : ℕ) → each i p ≡ true → p i ≡ true → each (i + 1) p ≡ true
  unfolding each
  each_more i h k = rw (add-one i) (rw (k, h))

  -- A place does not pass.
  pub each-not : (n i : ℕ) → i < n → p i ≡ false → each n p ≡ false
  unfolding each
  each-not zero i h k = absurd (omega arith)
  each-not (suc n) i h k = go (ℕ_discrete i n) (λ j. each-not n i j k)
    where
      and-false : (b : Bool) → (b && false) ≡ false
      and-false true = refl
      and-false false = refl

      go : Dec (i ≡ n) → (i < n → each n p ≡ false) → (p n && each n p) ≡ false
      go (yes e) f = let z : p n ≡ false = rw e at k in rw z
      go (no z) f = rw (f (omega arith), and-false (p n))

  -- All have passed.
  pub each_all : (n i : ℕ) → i ≡ n → each i p ≡ true → true ≡ each n p
  each_all n i e h = sym h ∙ ap (λ (k : ℕ). each k p) e

  -- The same of an array of n places, of which `len` are in use.
  module _ (n len : ℕ) (few : len ≤ n) where
    pub places-all : (i : ℕ) → i ≡ n → each i p ≡ true → true ≡ (leb len n && each n p)
    places-all i e h = rw (le-leb len n few) (each_all n i e h)

    pub places-not : (i : ℕ) → i < n → p i ≡ false → false ≡ (leb len n && each n p)
    places-not i h k = rw (le-leb len n few) (sym (each-not n i h k))
