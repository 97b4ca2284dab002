-- The fields of protobuf's wire format.
use Rattle.std.specs.Prelude.{Bool, cond, ◌&&◌, List, ℕ, ◌/◌, ◌%◌, leb, eqb, length, take, drop}
use Rattle.wire_fields.specs.Numbers.{Taken, taken, fault, after, CutShort, BadTag, number}

-- A field of a message: its number and what it holds.
pub data Field : Type 0 where
  -- Wire type 0: a number.
  varint : ℕ → ℕ → Field
  -- Wire types 1 and 5: eight bytes, or four. No message here has one, so that what they hold is left out.
  fixed : ℕ → Field
  -- Wire type 2: as many bytes as their length says.
  bytes : ℕ → List ℕ → Field

-- The first n bytes.
unfoldable pub part : ℕ → List ℕ → Taken (List ℕ)
part n l = cond (leb n (length l)) (taken (take n l) (drop n l)) (fault CutShort)

-- What stands behind a tag, by its wire type, as a field of number n.
abbrev pub as_varint : ℕ → List ℕ → Taken Field
as_varint n l = after (number l) (λ value rest. taken (varint n value) rest)

abbrev pub as_fixed : ℕ → ℕ → List ℕ → Taken Field
as_fixed size n l = after (part size l) (λ skipped rest. taken (fixed n) rest)

abbrev pub part_as : ℕ → ℕ → List ℕ → Taken Field
part_as n size l = after (part size l) (λ held rest. taken (bytes n held) rest)

-- A length, and as many bytes.
abbrev pub as_bytes : ℕ → List ℕ → Taken Field
as_bytes n l = after (number l) (part_as n)

unfoldable pub content : ℕ → ℕ → List ℕ → Taken Field
content wire n l =
    cond (eqb wire 0) (as_varint n l) (cond (eqb wire 1) (as_fixed 8 n l) (cond (eqb wire 2) (as_bytes n l) (cond (eqb wire 5) (as_fixed 4 n l) (fault BadTag))))

abbrev pub last_number : ℕ
last_number = 536870911

-- Field numbers begin at 1.
abbrev pub is_number : ℕ → Bool
is_number n = leb 1 n && leb n last_number

-- The low three bits of a tag are the wire type, the others the field number. It is judged before what stands behind it.
unfoldable pub tagged : ℕ → List ℕ → Taken Field
tagged tag l = cond (is_number (tag / 8)) (content (tag % 8) (tag / 8) l) (fault BadTag)

-- A tag, which is a number, and what stands behind it.
unfoldable pub field : List ℕ → Taken Field
field l = after (number l) tagged
