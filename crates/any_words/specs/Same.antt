-- Two words, compared. Assumes nothing.
use Rattle.std.specs.Prelude.{◌≡◌, refl, Bool, true, false, ◌&&◌, List, [], ◌∷◌, ℕ, suc, eqb, length}
use Rattle.std.specs.Cmp.Lexicographic.{pointwise}
use Rattle.std.proofs.Common.{ap, eq-eqb}
use Rattle.any_words.specs.Text.{same}

pub same_word : (w : List ℕ) → same w w ≡ true
unfolding same
same_word [] = refl
same_word (b ∷ w) = rw (eq-eqb b b refl) (same_word w)

pub not_same : (v w : List ℕ) → (length v ≡ length w → ⊥) → false ≡ same v w
unfolding same
not_same [] [] h = absurd (h refl)
not_same [] (b ∷ w) h = refl
not_same (a ∷ v) [] h = refl
not_same (a ∷ v) (b ∷ w) h = go (eqb a b) (not_same v w (λ e. h (ap suc e)))
  where
    go : (c : Bool) → false ≡ same v w → false ≡ c && same v w
    go true e = e
    go false e = refl

-- What `==` of two slices tests.
pub bytes-same : (v w : List ℕ) → pointwise eqb v w ≡ same v w
unfolding same
bytes-same [] [] = refl
bytes-same [] (b ∷ w) = refl
bytes-same (a ∷ v) [] = refl
bytes-same (a ∷ v) (b ∷ w) = ap (λ (c : Bool). eqb a b && c) (bytes-same v w)
