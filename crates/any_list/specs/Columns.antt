-- Laws of a column: how it grows by a row, and what a store to a row does to it. Assumes nothing.
use Rattle.std.specs.Prelude.{◌≡◌, length, get_or, set, drop}
use Rattle.std.proofs.Math.Path.{refl, ap}
use Rattle.std.proofs.Common.{◌∙◌, le_of_suc-le-suc, add-one, arith, drop_of_length-le, drop-cons}
use mathlib.Core.List.{List, [], ◌∷◌}
use Prim.Native.Nat.{ℕ, zero, suc, ◌+◌, ◌<◌, ◌≤◌}
use Rattle.rules.specs.Queues.{push}
use Rattle.any_list.specs.Arrays.{column}

module _ {A B : Type 0} (f : A → B) where
  pub length-column : (n : ℕ) (l : List A) → n ≤ length l → length (column f n l) ≡ n
  length-column zero l h = refl
  length-column (suc n) [] h = absurd (omega arith)
  length-column (suc n) (x ∷ l) h = ap suc (length-column n l (le_of_suc-le-suc h))

  more : (n : ℕ) (l : List A) (d : A) → n < length l → column f (suc n) l ≡ push (f (get_or l n d)) (column f n l)
  unfolding push
  more n [] d h = absurd (omega arith)
  more zero (x ∷ l) d h = refl
  more (suc n) (x ∷ l) d h = ap (λ (t : List B). f x ∷ t) (more n l d (le_of_suc-le-suc h))

  -- one row more is pushed
  pub column-more : (n : ℕ) (l : List A) (d : A) → n < length l → column f (n + 1) l ≡ push (f (get_or l n d)) (column f n l)
  column-more n l d h = rw (add-one n) (more n l d h)

  -- a row of a column; past its end what is asked for there
  pub column-at : (n i : ℕ) (l : List A) (d : A) → i < n → get_or (column f n l) i (f d) ≡ f (get_or l i d)
  column-at zero i l d h = absurd (omega arith)
  column-at (suc n) i [] d h = refl
  column-at (suc n) zero (x ∷ l) d h = refl
  column-at (suc n) (suc i) (x ∷ l) d h = column-at n i l d (le_of_suc-le-suc h)

  pub column-set : (n i : ℕ) (l : List A) (x : A) → column f n (set l i x) ≡ set (column f n l) i (f x)
  column-set zero i l x = refl
  column-set (suc n) i [] x = refl
  column-set (suc n) zero (y ∷ l) x = refl
  column-set (suc n) (suc i) (y ∷ l) x = ap (λ (t : List B). f y ∷ t) (column-set n i l x)

-- What a loop that has passed i rows has left of a column.
module _ {A B : Type 0} (f : A → B) (n : ℕ) (l : List A) (d : A) (fits : n ≤ length l) where
  -- the row at i, and then the rest
  pub left-more : (i : ℕ) → i < n → drop i (column f n l) ≡ f (get_or l i d) ∷ drop (i + 1) (column f n l)
  left-more i h =
      let k = length-column f n l fits in
      rw (add-one i) (drop-cons (column f n l) i (f d) (omega arith) ∙ ap (λ (x : B). x ∷ drop (suc i) (column f n l)) (column-at f n i l d h))

  pub left-none : (i : ℕ) → n ≤ i → drop i (column f n l) ≡ []
  left-none i h = let k = length-column f n l fits in drop_of_length-le (column f n l) {i = i} (omega arith)
