-- The status that a program ends with, by what it came to: where nobody reads its output any more, the one that a shell gives for the signal of that.
use Rattle.std.specs.Prelude.{ℕ, Result, Ok, Err}
use Rattle.files.specs.declared.Stop.{Stop}
use Rattle.files.specs.declared.Stop.TheVariants.{Refused, Lost, Unread}

abbrev pub status_of : Result (Unit {0}) Stop → ℕ
status_of (Ok done) = 0
status_of (Err Refused) = 0
status_of (Err Lost) = 0
status_of (Err Unread) = 141

-- Printing refuses nothing.
abbrev pub IsUnprinted : Stop → Type 0
IsUnprinted Refused = ⊥
IsUnprinted Lost = Unit {0}
IsUnprinted Unread = Unit {0}
