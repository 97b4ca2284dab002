-- Exchanging neighbours keeps the length of a list. Assumes nothing.
use Rattle.std.specs.Prelude.{◌≡◌, refl, List, [], ◌∷◌, ℕ, zero, suc, length}
use Rattle.std.proofs.Common.{ap, ◌∙◌}
use Rattle.rules_exchange.specs.Claim.{swap_at, swaps}

module _ {A : Type 0} where
  swap-length : (i : ℕ) (l : List A) → length (swap_at i l) ≡ length l
  swap-length i [] = refl
  swap-length zero (x ∷ []) = refl
  swap-length zero (x ∷ y ∷ l) = refl
  swap-length (suc i) (x ∷ l) = ap suc (swap-length i l)

  pub swaps-length : (is : List ℕ) (l : List A) → length (swaps is l) ≡ length l
  swaps-length [] l = refl
  swaps-length (i ∷ is) l = swaps-length is (swap_at i l) ∙ swap-length i l
