-- What reading a message gives.
use Rattle.std.specs.Prelude.{cond, ℕ, ◌-◌, ◌%◌, ◌^◌, ltb, ℤ, pos, negsuc, Option, None, Some, Result, Ok, Err}
use Rattle.std.proofs.Math.Option as Said
use Rattle.std.proofs.Math.Option.{none, some}
use Rattle.wire_fields.specs.declared.Fault.{Fault}
use Rattle.wire_fields.specs.Messages.{Reading}
use Rattle.wire_arbitration.specs.Update as Spec
use Rattle.wire_arbitration.specs.Seen.{value}
use Rattle.wire_arbitration.specs.declared.Role.{Role}
use Rattle.wire_arbitration.specs.declared.ElectionId.{ElectionId}
use Rattle.wire_arbitration.specs.declared.Status.{Status}
use Rattle.wire_arbitration.specs.declared.Arbitration.{Arbitration}

-- A number below 2^32 as a signed one: from 2^31 on it is 2^32 less. (`negsuc n` is -1 - n.)
unfoldable pub signed : ℕ → ℤ
signed bits = cond (ltb bits (2 ^ 31)) (pos bits) (negsuc (2 ^ 32 - 1 - bits))

-- The low 32 bits, signed.
abbrev pub low32 : ℕ → ℤ
low32 v = signed (v % 2 ^ 32)

-- ---- each embedded message, if it is present: absent scalars read 0

abbrev pub role_of : Said.Option Spec.Role → Option Role
role_of none = None
role_of (some r) = Some (record { id = value r.id })

abbrev pub election_of : Said.Option Spec.Uint128 → Option ElectionId
election_of none = None
election_of (some e) = Some (record { high = value e.high; low = value e.low })

abbrev pub status_of : Said.Option Spec.Status → Option Status
status_of none = None
status_of (some s) = Some (record { code = low32 (value s.code) })

-- What the message says, or its first fault.
abbrev pub arbitration : Reading Spec.Update → Result Arbitration Fault
arbitration (Err why) = Err why
arbitration (Ok u) = Ok (record { device = value u.device; role = role_of u.role; election = election_of u.election; status = status_of u.status })
