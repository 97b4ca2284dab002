-- What is kept of a list: two elements of which not both are kept may change places, and all that is kept is all. Assumes nothing.
use Rattle.std.specs.Prelude.{◌≡◌, refl, Bool, true, false, List, [], ◌∷◌, ℕ, T}
use Rattle.std.proofs.Common.{arith}
use Rattle.rules_laws.specs.All.{All}
use Rattle.merge_verdict.specs.Pairs.{kept, only}

pub not-nil : {A B : Type 0} {x : A} {l : List A} → [] ≡ x ∷ l → B
not-nil e = let z : ◌≡◌ {A = ℕ} 0 1 = cc in absurd (omega arith)

module _ {A : Type 0} where
  pub kept_same : (p : Bool) (x : A) (k l : List A) → kept p x k ≡ kept p x l → k ≡ l
  kept_same true x k l e = cc
  kept_same false x k l e = e

  pub kept-swap : (p q : Bool) (x y : A) (l : List A) → (T p → T q → ⊥) → kept p x (kept q y l) ≡ kept q y (kept p x l)
  kept-swap true true x y l n = absurd (n tt tt)
  kept-swap true false x y l n = refl
  kept-swap false q x y l n = refl

  module _ (P : A → Type 0) where
    all-kept : (b : Bool) (x : A) (l : List A) → P x → All P l → All P (kept b x l)
    all-kept true x l h k = (h, k)
    all-kept false x l h k = k

    pub all-behind : (b : Bool) (x : A) (l : List A) → All P (kept b x l) → All P l
    all-behind true x l h = h.1
    all-behind false x l h = h

    pub all-only : (p : A → Bool) (l : List A) → All P l → All P (only p l)
    all-only p [] h = tt
    all-only p (x ∷ l) h = all-kept (p x) x (only p l) h.0 (all-only p l h.1)
