-- What the code keeps of a message: absent scalars are 0, and the status code is as wide as on the wire.
use Rattle.std.specs.Prelude.{Bool, true, false, ℕ, Result}
use Rattle.std.proofs.Math.Option.{Option, none, some}
use Rattle.wire_fields.specs.declared.Fault.{Fault}
use Rattle.wire_fields.specs.Messages.{Reading, mapped}
use Rattle.wire_arbitration.specs.Update as Spec
use Rattle.wire_arbitration.specs.declared.Raw.{Raw}

-- Absent scalars read 0.
abbrev pub value : Option ℕ → ℕ
value none = 0
value (some v) = v

abbrev pub is_given : {A : Type 0} → Option A → Bool
is_given none = false
is_given (some a) = true

abbrev pub seen : Spec.Update → Raw
seen u = record {
  device = value u.device;
  role = is_given u.role;
  id = value (Spec.or_else Spec.no_role u.role).id;
  election = is_given u.election;
  high = value (Spec.or_else Spec.no_election u.election).high;
  low = value (Spec.or_else Spec.no_election u.election).low;
  status = is_given u.status;
  error = value (Spec.or_else Spec.no_status u.status).code;
}

abbrev pub raw_of : Reading Spec.Update → Result Raw Fault
raw_of r = mapped seen r
