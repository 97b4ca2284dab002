-- Arrays of which the first places are in use: what holds of the places in use, and of those behind them. Assumes nothing.
use Rattle.std.specs.Prelude.{◌≡◌, refl, Bool, List, [], ◌∷◌, map, ℕ, zero, suc, ◌≤◌, ◌<◌, T, length, get_or, take, drop}
use Rattle.std.proofs.Common.{sym, ◌∙◌, le_of_suc-le-suc, arith}
use Rattle.std.proofs.Math.Decide.{dec_lt}
use Rattle.std.proofs.Math.ListN.{get_or-eq_default}
use Rattle.rules.specs.Range.{all}
use Rattle.rules_laws.specs.All.{All}
use Rattle.rules_laws.specs.Tests.{as-is, is_all}
use Rattle.rules_laws.specs.Lists.{all-with}
use Rattle.any_list.specs.Arrays.{column, padded, table}
use Rattle.any_list.specs.Columns.{length-column}
use Rattle.any_list.specs.Tables.{table_of}

-- ---- the first n elements and the others

module _ {A : Type 0} (P : A → Type 0) where
  pub all_take : (n : ℕ) (l : List A) → All P l → All P (take n l)
  all_take zero l h = tt
  all_take (suc n) [] h = tt
  all_take (suc n) (x ∷ l) h = (h.0, all_take n l h.1)

  pub all_drop : (n : ℕ) (l : List A) → All P l → All P (drop n l)
  all_drop zero l h = h
  all_drop (suc n) [] h = tt
  all_drop (suc n) (x ∷ l) h = all_drop n l h.1

  pub taken_at : (n i : ℕ) (l : List A) (d : A) → All P (take n l) → i < n → i < length l → P (get_or l i d)
  taken_at zero i l d h j k = absurd (omega arith)
  taken_at (suc n) i [] d h j k = absurd (omega arith)
  taken_at (suc n) zero (x ∷ l) d h j k = h.0
  taken_at (suc n) (suc i) (x ∷ l) d h j k = taken_at n i l d h.1 (le_of_suc-le-suc j) (le_of_suc-le-suc k)

  pub dropped-at : (n i : ℕ) (l : List A) (d : A) → All P (drop n l) → n ≤ i → i < length l → P (get_or l i d)
  dropped-at n i [] d h j k = absurd (omega arith)
  dropped-at zero zero (x ∷ l) d h j k = h.0
  dropped-at zero (suc i) (x ∷ l) d h j k = dropped-at zero i l d h.1 (omega arith) (le_of_suc-le-suc k)
  dropped-at (suc n) zero (x ∷ l) d h j k = absurd (omega arith)
  dropped-at (suc n) (suc i) (x ∷ l) d h j k = dropped-at n i l d h (le_of_suc-le-suc j) (le_of_suc-le-suc k)

  -- of a table, by its rows
  pub taken-table : (n size : ℕ) (f : ℕ → A) → ((i : ℕ) → i < n → P (f i)) → All P (take n (table size f))
  taken-table zero size f h = tt
  taken-table (suc n) zero f h = tt
  taken-table (suc n) (suc size) f h = (h 0 (omega arith), taken-table n size (λ i. f (suc i)) (λ i j. h (suc i) (omega arith)))

  pub dropped-table : (n size : ℕ) (f : ℕ → A) → ((i : ℕ) → n ≤ i → P (f i)) → All P (drop n (table size f))
  dropped-table zero zero f h = tt
  dropped-table zero (suc size) f h = (h 0 (omega arith), dropped-table zero size (λ i. f (suc i)) (λ i j. h (suc i) (omega arith)))
  dropped-table (suc n) zero f h = tt
  dropped-table (suc n) (suc size) f h = dropped-table n size (λ i. f (suc i)) (λ i j. h (suc i) (omega arith))

-- What each element is known to be, and the test of all, give what is wanted of each.
pub all_known : {A : Type 0} {S P : A → Type 0} (p : A → Bool) → ((x : A) → S x → T (p x) → P x) → (l : List A) → All S l → T (all p l) → All P l
all_known p f l h t = all-with f l h ((is_all (λ x. as-is (p x)) l).to t)

-- Of an element that holds no array nothing need be known.
abbrev pub Any : {A : Type 0} → A → Type 0
Any x = Unit {0}

pub all_any : {A : Type 0} (l : List A) → All Any l
all_any [] = tt
all_any (x ∷ l) = (tt, all_any l)

-- Past its end a column has what is asked for there.
pub column-past : {A B : Type 0} (f : A → B) (n i : ℕ) (l : List A) (d : B) → n ≤ length l → n ≤ i → get_or (column f n l) i d ≡ d
column-past f n i l d few h = get_or-eq_default (column f n l) d (let e = length-column f n l few in omega arith)

-- An array is the table of its rows: those in use are what was written, and those behind are blank.
pub table_same : {R : Type 0} (size n : ℕ) (f : ℕ → R) (l : List R) (d blank : R) (written : R → R) → length l ≡ size
    → All (λ r. written r ≡ r) (take n l) → All (λ r. r ≡ blank) (drop n l)
    → ((i : ℕ) → i < n → f i ≡ written (get_or l i d)) → ((i : ℕ) → n ≤ i → f i ≡ blank) → table size f ≡ l
table_same size n f l d blank written e used behind used-row blank-row = sym (table_of size f l d e (λ i h. go i h (dec_lt i n)))
  where
    go : (i : ℕ) → i < size → Dec (i < n) → get_or l i d ≡ f i
    go i h (yes k) = sym (used-row i k ∙ taken_at (λ r. written r ≡ r) n i l d used k (omega arith))
    go i h (no k) = dropped-at (λ r. r ≡ blank) n i l d behind (omega arith) (omega arith) ∙ sym (blank-row i (omega arith))

-- ---- a list at the front of an array, with blanks behind it

module _ {A B : Type 0} (blank : B) (rep : A → B) where
  -- An array is what it holds with blanks behind it.
  pub padded-same : (hold : B → A) (size n : ℕ) (l : List B) → length l ≡ size → All (λ x. rep (hold x) ≡ x) (take n l) → All (λ x. x ≡ blank) (drop n l)
      → padded blank rep size (map hold (take n l)) ≡ l
  padded-same hold zero zero [] e h k = refl
  padded-same hold zero (suc n) [] e h k = refl
  padded-same hold zero n (x ∷ l) e h k = absurd (let z : suc (length l) ≡ 0 = e in omega arith)
  padded-same hold (suc size) n [] e h k = absurd (omega arith)
  padded-same hold (suc size) zero (x ∷ l) e h k = rw (k.0, padded-same hold size zero l (let z : suc (length l) ≡ suc size = e in omega arith) tt k.1)
  padded-same hold (suc size) (suc n) (x ∷ l) e h k = rw (h.0, padded-same hold size n l (let z : suc (length l) ≡ suc size = e in omega arith) h.1 k)

  pub taken-padded : (P : B → Type 0) (size : ℕ) (l : List A) → All (λ x. P (rep x)) l → All P (take (length l) (padded blank rep size l))
  taken-padded P size [] h = tt
  taken-padded P zero (x ∷ l) h = (h.0, taken-padded P zero l h.1)
  taken-padded P (suc size) (x ∷ l) h = (h.0, taken-padded P size l h.1)

  pub dropped-padded : (P : B → Type 0) (size : ℕ) (l : List A) → P blank → All P (drop (length l) (padded blank rep size l))
  dropped-padded P zero [] h = tt
  dropped-padded P zero (x ∷ l) h = dropped-padded P zero l h
  dropped-padded P (suc size) [] h = (h, dropped-padded P size [] h)
  dropped-padded P (suc size) (x ∷ l) h = dropped-padded P size l h
