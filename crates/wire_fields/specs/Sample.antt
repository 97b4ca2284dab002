-- Numbers and fields in bytes, as protobuf's page on its encoding has them, and each fault. Assumes nothing.
use Rattle.std.specs.Prelude.{◌≡◌, refl, [], ◌∷◌, ◌-◌, ◌^◌}
use Rattle.wire_fields.specs.Numbers.{taken, fault, CutShort, TooLarge, BadTag, number_in, number}
use Rattle.wire_fields.specs.Fields.{varint, fixed, bytes, part, content, tagged, field}

-- 150 is 96 01
pub two-groups : number (150 ∷ 1 ∷ []) ≡ taken 150 []
unfolding number_in
two-groups = refl

-- a longer form than needed says the same, and bytes behind a number stay
pub long-zero : number (128 ∷ 128 ∷ 0 ∷ 7 ∷ []) ≡ taken 0 (7 ∷ [])
unfolding number_in
long-zero = refl

pub largest : number (255 ∷ 255 ∷ 255 ∷ 255 ∷ 255 ∷ 255 ∷ 255 ∷ 255 ∷ 255 ∷ 1 ∷ []) ≡ taken (2 ^ 64 - 1) []
unfolding number_in
largest = refl

pub tenth-byte-two : number (128 ∷ 128 ∷ 128 ∷ 128 ∷ 128 ∷ 128 ∷ 128 ∷ 128 ∷ 128 ∷ 2 ∷ []) ≡ fault TooLarge
unfolding number_in
tenth-byte-two = refl

pub eleventh-byte : number (128 ∷ 128 ∷ 128 ∷ 128 ∷ 128 ∷ 128 ∷ 128 ∷ 128 ∷ 128 ∷ 128 ∷ 0 ∷ []) ≡ fault TooLarge
unfolding number_in
eleventh-byte = refl

pub unfinished : number (150 ∷ []) ≡ fault CutShort
unfolding number_in
unfinished = refl

-- 08 96 01: field 1 is 150
pub field-one : field (8 ∷ 150 ∷ 1 ∷ []) ≡ taken (varint 1 150) []
unfolding field tagged content part number_in
field-one = refl

-- 12 07 and "testing": field 2
pub field-two : field (18 ∷ 7 ∷ 116 ∷ 101 ∷ 115 ∷ 116 ∷ 105 ∷ 110 ∷ 103 ∷ []) ≡ taken (bytes 2 (116 ∷ 101 ∷ 115 ∷ 116 ∷ 105 ∷ 110 ∷ 103 ∷ [])) []
unfolding field tagged content part number_in
field-two = refl

pub four_bytes : field (45 ∷ 1 ∷ 2 ∷ 3 ∷ 4 ∷ 5 ∷ []) ≡ taken (fixed 5) (5 ∷ [])
unfolding field tagged content part number_in
four_bytes = refl

pub past_the_end : field (18 ∷ 2 ∷ 97 ∷ []) ≡ fault CutShort
unfolding field tagged content part number_in
past_the_end = refl

-- The start of a group is refused at its tag, whatever stands behind it.
pub group : field (11 ∷ []) ≡ fault BadTag
unfolding field tagged content part number_in
group = refl

pub number-zero : field (0 ∷ []) ≡ fault BadTag
unfolding field tagged content part number_in
number-zero = refl

-- field number 536,870,911 and the one above it
pub last-number : field (248 ∷ 255 ∷ 255 ∷ 255 ∷ 15 ∷ 1 ∷ []) ≡ taken (varint 536870911 1) []
unfolding field tagged content part number_in
last-number = refl

pub number-above : field (128 ∷ 128 ∷ 128 ∷ 128 ∷ 16 ∷ 1 ∷ []) ≡ fault BadTag
unfolding field tagged content part number_in
number-above = refl
