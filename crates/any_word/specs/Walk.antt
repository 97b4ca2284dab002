-- A loop that walks a word of flags by its lowest bit, and makes the row at that place anew. Assumes nothing.
use Rattle.std.specs.Prelude.{◌≡◌, refl, Bool, true, false, cond, List, [], ◌∷◌, ℕ, zero, suc, ◌<◌, length, get_or, set}
use Rattle.std.proofs.Common.{ap, ◌∙◌, arith, length-set, get_or-set_same, get_or-set_other}
use Rattle.std.proofs.Math.Decide.{ℕ_discrete}
use Rattle.rules.specs.Open.{word_of}
use Rattle.any_list.specs.Arrays.{table}
use Rattle.any_list.specs.Tables.{table_of}
use Rattle.any_word.specs.Flags.{none-set}

-- a flag that is true after one was cleared was true before
still : (flags : List Bool) (i j : ℕ) → get_or (set flags i false) j false ≡ true → get_or flags j false ≡ true
still [] i j e = e
still (b ∷ l) zero zero e = let z : ◌≡◌ {A = ℕ} 0 1 = cc in absurd (omega arith)
still (b ∷ l) zero (suc j) e = e
still (b ∷ l) (suc i) zero e = e
still (b ∷ l) (suc i) (suc j) e = still l i j e

-- Row i was `old i` and is to be `new i`, where it is flagged; d is what a read past the end gives.
module _ {R : Type 0} (size : ℕ) (old new : ℕ → R) (d : R) (flags : List Bool) where
  -- the flags `left` are still to be walked: a row flagged there is as it was, and any other is done
  pub record Walk (left : List Bool) (rows : List R) : Type 0 where
    pub places : length rows ≡ size
    pub among : length left ≡ length flags
    pub sub : (i : ℕ) → get_or left i false ≡ true → get_or flags i false ≡ true
    pub at : (i : ℕ) → i < size → get_or rows i d ≡ cond (get_or left i false) (old i) (new i)

  pub walk_start : (rows : List R) → length rows ≡ size → ((i : ℕ) → i < size → get_or rows i d ≡ old i) → ((i : ℕ) → get_or flags i false ≡ false → old i ≡ new i) → Walk flags rows
  walk_start rows n h same = record { places = n; among = refl; sub = λ i e. e; at = λ i lt. h i lt ∙ go i (get_or flags i false) refl }
    where
      go : (i : ℕ) (b : Bool) → get_or flags i false ≡ b → old i ≡ cond b (old i) (new i)
      go i true e = refl
      go i false e = same i e

  pub walk_step : (left : List Bool) (rows : List R) (i : ℕ) (x : R) → Walk left rows → i < length left → i < size → x ≡ new i → Walk (set left i false) (set rows i x)
  walk_step left rows i x w inside lt e = record {
    places = length-set rows i x ∙ w.places;
    among = length-set left i false ∙ w.among;
    sub = λ j t. w.sub j (still left i j t);
    at = λ j k. go j k (ℕ_discrete j i);
  }
    where
      in_rows : i < length rows
      in_rows = let n = w.places in omega arith

      go : (j : ℕ) → j < size → Dec (j ≡ i) → get_or (set rows i x) j d ≡ cond (get_or (set left i false) j false) (old j) (new j)
      go j k (yes q) = rw (q, get_or-set_same rows i x d in_rows, get_or-set_same left i false false inside, e)
      go j k (no q) = rw (get_or-set_other rows i j x d q, get_or-set_other left i j false false q) (w.at j k)

  -- a row whose flag is still set is as it was
  pub walk_at : (left : List Bool) (rows : List R) (i : ℕ) → Walk left rows → i < size → get_or left i false ≡ true → get_or rows i d ≡ old i
  walk_at left rows i w lt e = w.at i lt ∙ ap (λ (b : Bool). cond b (old i) (new i)) e

  pub walk_end : (left : List Bool) (rows : List R) → Walk left rows → word_of left ≡ 0 → rows ≡ table size new
  walk_end left rows w z = table_of size new rows d w.places (λ i lt. w.at i lt ∙ ap (λ (b : Bool). cond b (old i) (new i)) (none-set left z i))
