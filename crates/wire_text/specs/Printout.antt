-- What the program `arbitration` prints for a message.
use Rattle.std.specs.Prelude.{Bool, cond, List, [], ◌∷◌, ◌++◌, ℕ, suc, leb, ℤ, pos, negsuc, length, Ok, Err}
use Rattle.wire_fields.specs.Numbers.{code_of}
use Rattle.wire_fields.specs.Messages.{Reading}
use Rattle.any_text.specs.Decimal.{decimal}
use Rattle.any_text.specs.Lines.{newline, refused_line}
use Rattle.wire_arbitration.specs.Update.{Update, reading}
use Rattle.wire_arbitration.specs.Seen.{seen}
use Rattle.wire_arbitration.specs.Arbitration.{low32}
use Rattle.wire_arbitration.specs.declared.Raw.{Raw}

-- ---- the words

-- "device_id "
abbrev pub device_word : List ℕ
device_word = 100 ∷ 101 ∷ 118 ∷ 105 ∷ 99 ∷ 101 ∷ 95 ∷ 105 ∷ 100 ∷ 32 ∷ []

-- "role "
abbrev pub role_word : List ℕ
role_word = 114 ∷ 111 ∷ 108 ∷ 101 ∷ 32 ∷ []

-- "role.id "
abbrev pub role_id_word : List ℕ
role_id_word = 114 ∷ 111 ∷ 108 ∷ 101 ∷ 46 ∷ 105 ∷ 100 ∷ 32 ∷ []

-- "election_id "
abbrev pub election_word : List ℕ
election_word = 101 ∷ 108 ∷ 101 ∷ 99 ∷ 116 ∷ 105 ∷ 111 ∷ 110 ∷ 95 ∷ 105 ∷ 100 ∷ 32 ∷ []

-- "election_id.high "
abbrev pub high_word : List ℕ
high_word = 101 ∷ 108 ∷ 101 ∷ 99 ∷ 116 ∷ 105 ∷ 111 ∷ 110 ∷ 95 ∷ 105 ∷ 100 ∷ 46 ∷ 104 ∷ 105 ∷ 103 ∷ 104 ∷ 32 ∷ []

-- "election_id.low "
abbrev pub low_word : List ℕ
low_word = 101 ∷ 108 ∷ 101 ∷ 99 ∷ 116 ∷ 105 ∷ 111 ∷ 110 ∷ 95 ∷ 105 ∷ 100 ∷ 46 ∷ 108 ∷ 111 ∷ 119 ∷ 32 ∷ []

-- "status "
abbrev pub status_word : List ℕ
status_word = 115 ∷ 116 ∷ 97 ∷ 116 ∷ 117 ∷ 115 ∷ 32 ∷ []

-- "status.code "
abbrev pub code_word : List ℕ
code_word = 115 ∷ 116 ∷ 97 ∷ 116 ∷ 117 ∷ 115 ∷ 46 ∷ 99 ∷ 111 ∷ 100 ∷ 101 ∷ 32 ∷ []

-- "present" and a newline
abbrev pub present_word : List ℕ
present_word = 112 ∷ 114 ∷ 101 ∷ 115 ∷ 101 ∷ 110 ∷ 116 ∷ 10 ∷ []

-- "absent" and a newline
abbrev pub absent_word : List ℕ
absent_word = 97 ∷ 98 ∷ 115 ∷ 101 ∷ 110 ∷ 116 ∷ 10 ∷ []

-- ---- the lines

abbrev pub number_line : List ℕ → ℕ → List ℕ
number_line word n = word ++ decimal n ++ (newline ∷ [])

abbrev pub flag_word : Bool → List ℕ
flag_word present = cond present present_word absent_word

abbrev pub flag_line : List ℕ → Bool → List ℕ
flag_line word present = word ++ flag_word present

-- A signed number: "-" before the digits of one below 0. (`negsuc n` is -1 - n.)
abbrev pub integer : ℤ → List ℕ
integer (pos n) = decimal n
integer (negsuc n) = (45 ∷ []) ++ decimal (suc n)

abbrev pub integer_line : List ℕ → ℤ → List ℕ
integer_line word z = word ++ integer z ++ (newline ∷ [])

unfoldable pub role_lines : Raw → List ℕ
role_lines r = flag_line role_word r.role ++ number_line role_id_word r.id

unfoldable pub election_lines : Raw → List ℕ
election_lines r = flag_line election_word r.election ++ number_line high_word r.high ++ number_line low_word r.low

unfoldable pub status_lines : Raw → List ℕ
status_lines r = flag_line status_word r.status ++ integer_line code_word (low32 r.error)

unfoldable pub field_lines : Raw → List ℕ
field_lines r = number_line device_word r.device ++ role_lines r ++ election_lines r ++ status_lines r

-- ---- the text

abbrev pub text_of : Reading Update → List ℕ
text_of (Ok u) = field_lines (seen u)
text_of (Err why) = refused_line (code_of why)

-- The most bytes that the program reads.
abbrev pub longest_message : ℕ
longest_message = 65536

abbrev pub bad_length : ℕ
bad_length = 8

unfoldable pub printout : List ℕ → List ℕ
printout message = cond (leb (length message) longest_message) (text_of (reading message)) (refused_line bad_length)
