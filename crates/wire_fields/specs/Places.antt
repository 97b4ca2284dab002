-- What stands at a place of a message, as the code's structs have it.
use Rattle.std.specs.Prelude.{List, ℕ, ◌-◌, ◌≤◌, length, take, drop, Result, Ok, Err}
use Rattle.wire_fields.specs.Numbers.{Fault, Taken, taken, fault, number}
use Rattle.wire_fields.specs.Fields as Fields
use Rattle.wire_fields.specs.Fields.{varint, fixed, bytes, field}
use Rattle.wire_fields.specs.declared.Number.{Number}
use Rattle.wire_fields.specs.declared.Held.{Held}
use Rattle.wire_fields.specs.declared.Held.TheVariants.{Varint, Fixed, Bytes}
use Rattle.wire_fields.specs.declared.Field.{Field}

-- The place behind what was read: the bytes `rest` are the end of the message.
abbrev pub place_of : List ℕ → List ℕ → ℕ
place_of message rest = length message - length rest

-- ---- numbers

abbrev pub read_as : ℕ → ℕ → Result Number Fault
read_as value next = Ok (record { value = value; next = next })

abbrev pub found_number : List ℕ → Taken ℕ → Result Number Fault
found_number message (taken value rest) = read_as value (place_of message rest)
found_number message (fault why) = Err why

unfoldable pub number_at : List ℕ → ℕ → Result Number Fault
number_at message at = found_number message (number (drop at message))

-- ---- fields

abbrev pub ends_at : ℕ → Result ℕ Fault
ends_at next = Ok next

-- The place behind bytes that are all there.
abbrev pub found_part : List ℕ → Taken (List ℕ) → Result ℕ Fault
found_part message (taken held rest) = ends_at (place_of message rest)
found_part message (fault why) = Err why

-- Of bytes that a field holds the place where they begin; they end where the field does.
abbrev pub standing : Fields.Field → ℕ → Field
standing (varint n value) next = record { number = n; held = Varint value; next = next }
standing (fixed n) next = record { number = n; held = Fixed; next = next }
standing (bytes n held) next = record { number = n; held = Bytes (next - length held); next = next }

abbrev pub stands_as : Fields.Field → ℕ → Result Field Fault
stands_as f next = Ok (standing f next)

abbrev pub bytes_at : ℕ → ℕ → ℕ → Result Field Fault
bytes_at number start next = Ok (record { number = number; held = Bytes start; next = next })

abbrev pub found_field : List ℕ → Taken Fields.Field → Result Field Fault
found_field message (taken f rest) = stands_as f (place_of message rest)
found_field message (fault why) = Err why

unfoldable pub field_at : List ℕ → ℕ → Result Field Fault
field_at message at = found_field message (field (drop at message))

-- The bytes of the message from one place to another.
abbrev pub between : List ℕ → ℕ → ℕ → List ℕ
between message start next = take (next - start) (drop start message)

abbrev pub field_with : List ℕ → ℕ → ℕ → Held → Fields.Field
field_with message number next (Varint value) = varint number value
field_with message number next Fixed = fixed number
field_with message number next (Bytes start) = bytes number (between message start next)

-- Its bytes begin no later than it ends, and it ends within the message.
abbrev pub ends_in_order : Held → ℕ → Type 0
ends_in_order (Varint value) next = Unit
ends_in_order Fixed next = Unit
ends_in_order (Bytes start) next = start ≤ next

abbrev pub Within : List ℕ → Field → Type 0
Within message r = ends_in_order r.held r.next × (r.next ≤ length message)

-- The field of the wire format that such a struct stands for.
abbrev pub field_of : List ℕ → Field → Fields.Field
field_of message r = field_with message r.number r.next r.held
