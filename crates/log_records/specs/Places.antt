-- Which record stands at a place. Assumes nothing.
use Rattle.std.specs.Prelude.{◌≡◌, refl, map, List, [], ◌∷◌, ℕ, zero, suc, length, get_or}
use Rattle.std.proofs.Common.{ap}
use Rattle.log_read.specs.declared.Record.{Record}
use Rattle.log_read.specs.Log.{Row, record_of}
use Rattle.log_records.specs.Rows.{no_row, row_at, rows_of}

pub rows-get : (l : List Record) (i : ℕ) → get_or (rows_of l) i no_row ≡ row_at l i
rows-get [] i = refl
rows-get (r ∷ l) zero = refl
rows-get (r ∷ l) (suc i) = rows-get l i

pub rows-length : (l : List Record) → length (rows_of l) ≡ length l
rows-length [] = refl
rows-length (r ∷ l) = ap suc (rows-length l)

-- What was made of records says them.
pub rows-back : (rows : List Row) → rows_of (map record_of rows) ≡ rows
rows-back [] = refl
rows-back (r ∷ rows) = ap (λ (l : List Row). r ∷ l) (rows-back rows)
