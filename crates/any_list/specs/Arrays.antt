-- Lists in arrays: what the rows of an array hold, and how a list is written into its places.
use Rattle.std.specs.Prelude.{List, [], ◌∷◌, map, ℕ, zero, suc, length, take}
use Rattle.rules.specs.Limits.{queue_length}

-- A column: f of each of the first n rows.
abbrev pub column : {A B : Type 0} → (A → B) → ℕ → List A → List B
column f n l = map f (take n l)

-- `size` rows, f i at place i.
abbrev pub table : {R : Type 0} → ℕ → (ℕ → R) → List R
table zero f = []
table (suc size) f = f 0 ∷ table size (λ i. f (suc i))

-- The list at the front of `size` places, each element written by `rep`, and blanks behind it.
abbrev pub padded : {A B : Type 0} → B → (A → B) → ℕ → List A → List B
padded blank rep zero l = map rep l
padded blank rep (suc size) [] = blank ∷ padded blank rep size []
padded blank rep (suc size) (x ∷ l) = rep x ∷ padded blank rep size l

-- Any queue: its places, those in use first, and how many are in use.
pub record Queue (B : Type 0) : Type 0 where
  pub items : List B
  pub len : ℕ

abbrev pub packed : {A B : Type 0} → B → (A → B) → List A → Queue B
packed blank rep l = record { items = padded blank rep queue_length l; len = length l }

-- The list that a queue holds, each element read by `hold`.
abbrev pub held : {A B : Type 0} → (B → A) → Queue B → List A
held hold q = map hold (take q.len q.items)
