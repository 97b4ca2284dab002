-- What the code makes of each field.
use Rattle.std.specs.Prelude.{true, false, cond, List, ℕ, eqb, Ok}
use Rattle.wire_fields.specs.Fields.{Field, varint, fixed, bytes}
use Rattle.wire_fields.specs.Messages.{Reading, mapped, message}
use Rattle.wire_fields.specs.declared.Field as Placed
use Rattle.wire_fields.specs.declared.Held.{Held}
use Rattle.wire_fields.specs.declared.Held.TheVariants.{Varint, Fixed, Bytes}
use Rattle.wire_arbitration.specs.declared.Pair.{Pair}
use Rattle.wire_arbitration.specs.declared.Raw.{Raw}

abbrev pub see_scalar : ℕ → Field → ℕ → ℕ
see_scalar n (varint k v) old = cond (eqb k n) v old
see_scalar n (fixed k) old = old
see_scalar n (bytes k held) old = old

-- The same of the field that stands at a place.
abbrev pub last_held : Held → ℕ → ℕ → ℕ → ℕ
last_held (Varint value) number n old = cond (eqb number n) value old
last_held Fixed number n old = old
last_held (Bytes start) number n old = old

abbrev pub last_at : Placed.Field → ℕ → ℕ → ℕ
last_at f n old = last_held f.held f.number n old

-- An embedded message of one scalar, and of two.
abbrev pub see_first : Field → ℕ → Reading ℕ
see_first f old = Ok (see_scalar 1 f old)

abbrev pub paired : ℕ → ℕ → Reading Pair
paired first second = Ok (record { first = first; second = second })

abbrev pub see_two : Field → Pair → Reading Pair
see_two f t = paired (see_scalar 1 f t.first) (see_scalar 2 f t.second)

-- What no bytes say.
abbrev pub nothing_said : Raw
nothing_said = record { device = 0; role = false; id = 0; election = false; high = 0; low = 0; status = false; error = 0 }

abbrev pub with_device : Raw → ℕ → Raw
with_device r v = record { device = v; role = r.role; id = r.id; election = r.election; high = r.high; low = r.low; status = r.status; error = r.error }

abbrev pub with_role : Raw → ℕ → Raw
with_role r v = record { device = r.device; role = true; id = v; election = r.election; high = r.high; low = r.low; status = r.status; error = r.error }

abbrev pub with_election : Raw → Pair → Raw
with_election r t = record { device = r.device; role = r.role; id = r.id; election = true; high = t.first; low = t.second; status = r.status; error = r.error }

abbrev pub with_status : Raw → ℕ → Raw
with_status r v = record { device = r.device; role = r.role; id = r.id; election = r.election; high = r.high; low = r.low; status = true; error = v }

abbrev pub see_role : List ℕ → Raw → Reading Raw
see_role held r = mapped (with_role r) (message see_first r.id held)

abbrev pub see_election : List ℕ → Raw → Reading Raw
see_election held r = mapped (with_election r) (message see_two (record { first = r.high; second = r.low }) held)

abbrev pub see_status : List ℕ → Raw → Reading Raw
see_status held r = mapped (with_status r) (message see_first r.error held)

unfoldable pub see_bytes : ℕ → List ℕ → Raw → Reading Raw
see_bytes k held r = cond (eqb k 2) (see_role held r) (cond (eqb k 3) (see_election held r) (cond (eqb k 4) (see_status held r) (Ok r)))

abbrev pub see : Field → Raw → Reading Raw
see (varint k v) r = Ok (with_device r (see_scalar 1 (varint k v) r.device))
see (fixed k) r = Ok r
see (bytes k held) r = see_bytes k held r

-- A message on top of what an earlier one gave.
abbrev pub message_onto : Raw → List ℕ → Reading Raw
message_onto r l = message see r l
