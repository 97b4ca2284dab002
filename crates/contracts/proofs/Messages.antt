-- What the contract of `printout` lets be printed of a message. Assumes nothing.
use Rattle.std.specs.Prelude.{List, ℕ}
use Rattle.contracts.specs.Calls.{PrintoutMay}
use Rattle.contracts.specs.Only.{Puts, puts, only-printout}
use Rattle.contracts.specs.Messages.{worked, printed, worked-printed}

pub print-worked : (buf : List ℕ) → Puts PrintoutMay (worked, buf) printed buf
print-worked buf = puts PrintoutMay (worked, buf) buf worked-printed (only-printout (worked, buf))
