-- A function done to each of the first rows of an array, as a loop does it. Assumes nothing.
use Rattle.std.specs.Prelude.{◌≡◌, refl, List, [], ◌∷◌, ℕ, zero, suc, ◌+◌, ◌<◌, ◌≤◌, length, get_or, set}
use Rattle.std.proofs.Common.{ap, le_of_suc-le-suc, add-one, arith}

module _ {A : Type 0} (f : A → A) where
  abbrev pub map_first : ℕ → List A → List A
  map_first zero l = l
  map_first (suc n) [] = []
  map_first (suc n) (x ∷ l) = f x ∷ map_first n l

  pub map_first-length : (n : ℕ) (l : List A) → length (map_first n l) ≡ length l
  map_first-length zero l = refl
  map_first-length (suc n) [] = refl
  map_first-length (suc n) (x ∷ l) = ap suc (map_first-length n l)

  -- a row among the first n, and a row behind them
  pub map_first-in : (n i : ℕ) (l : List A) (d : A) → i < n → i < length l → get_or (map_first n l) i d ≡ f (get_or l i d)
  map_first-in zero i l d h k = absurd (omega arith)
  map_first-in (suc n) i [] d h k = absurd (omega arith)
  map_first-in (suc n) zero (x ∷ l) d h k = refl
  map_first-in (suc n) (suc i) (x ∷ l) d h k = map_first-in n i l d (le_of_suc-le-suc h) (le_of_suc-le-suc k)

  pub map_first-out : (n i : ℕ) (l : List A) (d : A) → n ≤ i → get_or (map_first n l) i d ≡ get_or l i d
  map_first-out zero i l d h = refl
  map_first-out (suc n) i [] d h = refl
  map_first-out (suc n) zero (x ∷ l) d h = absurd (omega arith)
  map_first-out (suc n) (suc i) (x ∷ l) d h = map_first-out n i l d (le_of_suc-le-suc h)

  more : (n : ℕ) (l : List A) (d : A) → n < length l → set (map_first n l) n (f (get_or l n d)) ≡ map_first (suc n) l
  more n [] d h = absurd (omega arith)
  more zero (x ∷ l) d h = refl
  more (suc n) (x ∷ l) d h = ap (λ (t : List A). f x ∷ t) (more n l d (le_of_suc-le-suc h))

  -- a loop has done the first i rows, and stores f of the next one
  pub map_first-step : (i : ℕ) (l rows : List A) (d x : A) → rows ≡ map_first i l → x ≡ f (get_or rows i d) → i < length l → set rows i x ≡ map_first (i + 1) l
  map_first-step i l rows d x e h lt = rw (h, e, map_first-out i i l d (omega arith), add-one i) (more i l d lt)

  -- the rows from i on, among the first n
  abbrev pub map_from : ℕ → ℕ → List A → List A
  map_from zero n l = map_first n l
  map_from (suc i) zero l = l
  map_from (suc i) (suc n) [] = []
  map_from (suc i) (suc n) (x ∷ l) = x ∷ map_from i n l

  pub map_from-none : (n : ℕ) (l : List A) → map_from n n l ≡ l
  map_from-none zero l = refl
  map_from-none (suc n) [] = refl
  map_from-none (suc n) (x ∷ l) = ap (λ (t : List A). x ∷ t) (map_from-none n l)

  less : (i n : ℕ) (l : List A) (d : A) → i < n → map_from (suc i) n (set l i (f (get_or l i d))) ≡ map_from i n l
  less i zero l d h = absurd (omega arith)
  less zero (suc n) [] d h = refl
  less (suc i) (suc n) [] d h = refl
  less zero (suc n) (x ∷ l) d h = refl
  less (suc i) (suc n) (x ∷ l) d h = ap (λ (t : List A). x ∷ t) (less i n l d (le_of_suc-le-suc h))

  -- a loop stores f of row i
  pub map_from-step : (i n : ℕ) (l : List A) (d x : A) → x ≡ f (get_or l i d) → i < n → map_from (i + 1) n (set l i x) ≡ map_from i n l
  map_from-step i n l d x e h = rw (e, add-one i) (less i n l d h)
