-- Laws of a list in the places of an array, with blanks behind it. Assumes nothing.
use Rattle.std.specs.Prelude.{◌≡◌, length, set, take, drop, replicate}
use Rattle.std.proofs.Math.Path.{refl, ap}
use mathlib.Core.List.{List, [], ◌∷◌, ◌++◌, map}
use Prim.Native.Nat.{ℕ, zero, suc, ◌≤◌, ◌<◌}
use Rattle.std.proofs.Common.{le_of_suc-le-suc, arith}
use Rattle.rules.specs.Queues.{push}
use Rattle.any_list.specs.Arrays.{padded}

module _ {A B : Type 0} (blank : B) (rep : A → B) where
  pub length-padded : (size : ℕ) (l : List A) → length l ≤ size → length (padded blank rep size l) ≡ size
  length-padded zero [] h = refl
  length-padded zero (x ∷ l) h = absurd (let z : suc (length l) ≤ 0 = h in omega arith)
  length-padded (suc size) [] h = ap suc (length-padded size [] (omega arith))
  length-padded (suc size) (x ∷ l) h = ap suc (length-padded size l (le_of_suc-le-suc h))

  pub padded-none : (size : ℕ) → padded blank rep size [] ≡ replicate size blank
  padded-none zero = refl
  padded-none (suc size) = ap (λ (t : List B). blank ∷ t) (padded-none size)

  -- the blank at the place behind the list gives way to one element more
  pub padded-push : (size : ℕ) (l : List A) (x : A) → length l < size → set (padded blank rep size l) (length l) (rep x) ≡ padded blank rep size (push x l)
  unfolding push
  padded-push zero l x h = absurd (omega arith)
  padded-push (suc size) [] x h = refl
  padded-push (suc size) (y ∷ l) x h = ap (λ (t : List B). rep y ∷ t) (padded-push size l x (le_of_suc-le-suc h))

  -- one place more
  padded-more : (size : ℕ) (l : List A) → length l ≤ size → padded blank rep size l ++ (blank ∷ []) ≡ padded blank rep (suc size) l
  padded-more zero [] h = refl
  padded-more zero (x ∷ l) h = absurd (let z : suc (length l) ≤ 0 = h in omega arith)
  padded-more (suc size) [] h = ap (λ (t : List B). blank ∷ t) (padded-more size [] (omega arith))
  padded-more (suc size) (x ∷ l) h = ap (λ (t : List B). rep x ∷ t) (padded-more size l (le_of_suc-le-suc h))

  -- the head taken off, the others moved up, and a blank behind
  pub padded-pop : (size : ℕ) (x : A) (l : List A) → length l ≤ size → drop 1 (padded blank rep (suc size) (x ∷ l)) ++ (blank ∷ []) ≡ padded blank rep (suc size) l
  padded-pop size x l h = padded-more size l h

  module _ (hold : B → A) (back : (x : A) → hold (rep x) ≡ x) where
    -- what was written is held
    pub held-padded : (size : ℕ) (l : List A) → map hold (take (length l) (padded blank rep size l)) ≡ l
    held-padded size [] = refl
    held-padded zero (x ∷ l) = rw (back x, held-padded zero l)
    held-padded (suc size) (x ∷ l) = rw (back x, held-padded size l)
