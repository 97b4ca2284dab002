-- Laws of an array that is given by the row at each place. Assumes nothing.
use Rattle.std.specs.Prelude.{◌≡◌, refl, ◌≢◌, List, [], ◌∷◌, ◌++◌, ℕ, zero, suc, ◌≤◌, ◌<◌, length, get_or, set, drop}
use Rattle.std.proofs.Common.{sym, ap, ◌∙◌, le_of_suc-le-suc, arith, ext_get_or}
use Rattle.any_list.specs.Arrays.{column, table}

module _ {R : Type 0} where
  pub table-length : (size : ℕ) (f : ℕ → R) → length (table size f) ≡ size
  table-length zero f = refl
  table-length (suc size) f = ap suc (table-length size (λ i. f (suc i)))

  pub table-get : (size : ℕ) (f : ℕ → R) (i : ℕ) (d : R) → i < size → get_or (table size f) i d ≡ f i
  table-get zero f i d h = absurd (omega arith)
  table-get (suc size) f zero d h = refl
  table-get (suc size) f (suc i) d h = table-get size (λ j. f (suc j)) i d (le_of_suc-le-suc h)

  -- an array is the table of its rows
  pub table_of : (size : ℕ) (f : ℕ → R) (l : List R) (d : R) → length l ≡ size → ((i : ℕ) → i < size → get_or l i d ≡ f i) → l ≡ table size f
  table_of size f l d n h =
      let k = table-length size f in
      ext_get_or d l (table size f) (n ∙ sym k) (λ i lt. h i (omega arith) ∙ sym (table-get size f i d (omega arith)))

  pub table-ext : (size : ℕ) (f f' : ℕ → R) → ((i : ℕ) → f' i ≡ f i) → table size f' ≡ table size f
  table-ext zero f f' h = refl
  table-ext (suc size) f f' h = rw (h 0, table-ext size (λ i. f (suc i)) (λ i. f' (suc i)) (λ i. h (suc i)))

  -- one row anew is one store
  pub table-set : (size : ℕ) (f f' : ℕ → R) (j : ℕ) (x : R) → x ≡ f' j → ((i : ℕ) → i ≢ j → f' i ≡ f i) → set (table size f) j x ≡ table size f'
  table-set zero f f' j x e h = refl
  table-set (suc size) f f' zero x e h = rw (e, table-ext size (λ i. f (suc i)) (λ i. f' (suc i)) (λ i. h (suc i) (λ z. omega arith)))
  table-set (suc size) f f' (suc j) x e h =
      rw (h 0 (λ z. omega arith), table-set size (λ i. f (suc i)) (λ i. f' (suc i)) j x e (λ i z. h (suc i) (λ q. z (omega arith))))

  -- places taken one by one from the second on, and one more behind them
  pub moved_up : (size : ℕ) (l : List R) (d x : R) → length l ≡ suc size → table size (λ i. get_or l (suc i) d) ++ (x ∷ []) ≡ drop 1 l ++ (x ∷ [])
  moved_up size [] d x e = absurd (omega arith)
  moved_up size (y ∷ l) d x e = ap (λ (t : List R). t ++ (x ∷ [])) (sym (table_of size (λ i. get_or l i d) l d (omega arith) (λ i h. refl)))

-- a column of a table is the list that its rows were made of
pub table-column : {R B : Type 0} (g : R → B) (size : ℕ) (f : ℕ → R) (l : List B) (d : B) → length l ≤ size → ((i : ℕ) → g (f i) ≡ get_or l i d) → column g (length l) (table size f) ≡ l
table-column g size f [] d h e = refl
table-column g zero f (x ∷ l) d h e = absurd (let z : suc (length l) ≤ 0 = h in omega arith)
table-column g (suc size) f (x ∷ l) d h e = rw (e 0, table-column g size (λ i. f (suc i)) l d (let z : suc (length l) ≤ suc size = h in omega arith) (λ i. e (suc i)))
