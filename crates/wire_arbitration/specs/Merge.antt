-- What two messages say, one after the other, and which fields say nothing.
use Rattle.std.specs.Prelude.{◌≡◌, Bool, true, false, not, ◌&&◌, ◌||◌, List, ℕ, eqb, Ok}
use Rattle.std.proofs.Math.Option.{Option, none, some}
use Rattle.wire_fields.specs.Fields.{Field, varint, fixed, bytes}
use Rattle.wire_fields.specs.Messages.{message}
use Rattle.wire_arbitration.specs.Update.{Role, Uint128, Status, Update}

-- A scalar that the later one gives wins.
abbrev pub later : Option ℕ → Option ℕ → Option ℕ
later old none = old
later old (some value) = some value

abbrev pub merge_role : Role → Role → Role
merge_role old new = record { id = later old.id new.id }

abbrev pub merge_election : Uint128 → Uint128 → Uint128
merge_election old new = record { high = later old.high new.high; low = later old.low new.low }

abbrev pub merge_status : Status → Status → Status
merge_status old new = record { code = later old.code new.code }

-- Embedded messages that both give are merged.
abbrev pub both : {A : Type 0} → (A → A → A) → Option A → Option A → Option A
both merge old none = old
both merge none (some new) = some new
both merge (some old) (some new) = some (merge old new)

abbrev pub merge : Update → Update → Update
merge old new = record {
  device = later old.device new.device;
  role = both merge_role old.role new.role;
  election = both merge_election old.election new.election;
  status = both merge_status old.status new.status;
}

-- A field of another number than the four, or of another wire type than theirs.
abbrev pub unknown : Field → Bool
unknown (varint k value) = not (eqb k 1)
unknown (fixed k) = true
unknown (bytes k held) = not (eqb k 2 || eqb k 3 || eqb k 4)

-- A number in field n.
abbrev pub is_scalar : ℕ → Field → Bool
is_scalar n (varint k value) = eqb k n
is_scalar n (fixed k) = false
is_scalar n (bytes k held) = false

-- The same of the embedded message in field k: each has a scalar 1, and the election id (field 3) a scalar 2.
abbrev pub unknown_in : ℕ → Field → Bool
unknown_in k f = not (is_scalar 1 f || eqb k 3 && is_scalar 2 f)

-- Fields, one after the other, and nothing behind them.
abbrev pub Fields : List ℕ → Type 0
Fields l = message (λ f (n : ℕ). Ok n) 0 l ≡ Ok 0
