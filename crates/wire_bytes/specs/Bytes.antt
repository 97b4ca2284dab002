-- What reading a message into a lent buffer gives: the fields as forty bytes.
use Rattle.std.specs.Prelude.{Bool, cond, List, [], ◌∷◌, ◌++◌, ℕ, zero, suc, ◌/◌, ◌%◌, leb, length, drop, Ok, Err}
use Rattle.wire_fields.specs.Numbers.{code_of}
use Rattle.wire_fields.specs.Messages.{Reading}
use Rattle.wire_arbitration.specs.Update.{Update, reading}
use Rattle.wire_arbitration.specs.Seen.{seen}
use Rattle.wire_arbitration.specs.declared.Raw.{Raw}

-- The low n bytes of a number, the least first.
unfoldable pub little : ℕ → ℕ → List ℕ
little zero v = []
little (suc n) v = v % 256 ∷ little n (v / 256)

abbrev pub flag : Bool → ℕ
flag b = cond b 1 0

-- Device id, role id, election id high and low, and the low 4 bytes of the status code, which are its two's complement.
abbrev pub number_bytes : Raw → List ℕ
number_bytes r = little 8 r.device ++ little 8 r.id ++ little 8 r.high ++ little 8 r.low ++ little 4 r.error

-- Whether the role, the election id and the status are present; and a 0.
abbrev pub flag_bytes : Raw → List ℕ
flag_bytes r = flag r.role ∷ flag r.election ∷ flag r.status ∷ 0 ∷ []

abbrev pub field_bytes : Raw → List ℕ
field_bytes r = number_bytes r ++ flag_bytes r

abbrev pub field_length : ℕ
field_length = 40

abbrev pub out_too_short : ℕ
out_too_short = 12

pub record Reported : Type 0 where
  pub returned : ℕ
  pub fields : List ℕ

-- A refusal leaves the buffer. A message that cannot be read is refused before a buffer that is too short.
abbrev pub reported_as : Reading Update → List ℕ → Reported
reported_as (Err why) fields = record { returned = code_of why; fields = fields }
reported_as (Ok u) fields =
    cond (leb field_length (length fields))
    (record { returned = 0; fields = field_bytes (seen u) ++ drop field_length fields })
    (record { returned = out_too_short; fields = fields })

unfoldable pub reported : List ℕ → List ℕ → Reported
reported message fields = reported_as (reading message) fields
