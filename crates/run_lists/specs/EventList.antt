-- The event list: note bytes, then records of two bytes, then a trailer of twelve that points back. And what a run writes of the history.
use Rattle.std.specs.Prelude.{Bool, true, false, ◌&&◌, List, [], ◌∷◌, ◌++◌, ℕ, ◌+◌, ◌*◌, ◌-◌, ◌/◌, ◌%◌, length, get_or, drop, eqb}
use Rattle.rules.specs.Limits.{most_nodes}
use Rattle.rules.specs.Codes.{bad_length, bad_mark, bad_node_count, bad_extent}
use Rattle.rules.specs.State.{Write}
use Rattle.rules.specs.Range.{within}
use Rattle.rules.specs.Step.{Event}
use Rattle.any_list.specs.Arrays.{table}

abbrev pub trailer_length : ℕ
trailer_length = 12

-- The most bytes that a list has.
abbrev pub longest : ℕ
longest = 65536

abbrev pub byte_at : List ℕ → ℕ → ℕ
byte_at l at = get_or l at 0

-- The number that the four bytes from a place on make, the least byte first.
unfoldable pub number_at : List ℕ → ℕ → ℕ
number_at l at = byte_at l at + 256 * (byte_at l (at + 1) + 256 * (byte_at l (at + 2) + 256 * byte_at l (at + 3)))

-- ---- the trailer

abbrev pub trailer_at : List ℕ → ℕ
trailer_at l = length l - trailer_length

-- Where the first record stands.
abbrev pub first_record : List ℕ → ℕ
first_record l = number_at l (trailer_at l)

abbrev pub record_count : List ℕ → ℕ
record_count l = number_at l (trailer_at l + 4)

abbrev pub node_count : List ℕ → ℕ
node_count l = byte_at l (trailer_at l + 8)

abbrev pub zero_byte : List ℕ → ℕ
zero_byte l = byte_at l (trailer_at l + 9)

-- The last two bytes are 4D 41.
abbrev pub marked : List ℕ → Bool
marked l = eqb (byte_at l (trailer_at l + 10)) 77 && eqb (byte_at l (trailer_at l + 11)) 65

-- ---- refusals

abbrev pub length_fits : List ℕ → Bool
length_fits l = within trailer_length longest (length l)

abbrev pub trailer_fits : List ℕ → Bool
trailer_fits l = marked l && eqb (zero_byte l) 0

abbrev pub nodes_fit : List ℕ → Bool
nodes_fit l = within 1 most_nodes (node_count l)

-- The trailer stands right behind the last record.
abbrev pub sum_fits : List ℕ → Bool
sum_fits l = eqb (first_record l + 2 * record_count l + trailer_length) (length l)

-- Unless the test holds, the answer is the code.
abbrev pub need : Bool → ℕ → ℕ → ℕ
need true code answer = answer
need false code answer = code

-- Why a list is refused, lower numbers first; 0 for a good one.
unfoldable pub refusal : List ℕ → ℕ
refusal l = need (length_fits l) bad_length (need (trailer_fits l) bad_mark (need (nodes_fit l) bad_node_count (need (sum_fits l) bad_extent 0)))

-- ---- the records

-- The record that stands at a place: kind and node.
abbrev pub event_at : List ℕ → ℕ → Event
event_at l at = record { kind = byte_at l at; node = byte_at l (at + 1) }

-- The i-th record, counted from 0.
abbrev pub record_at : List ℕ → ℕ → Event
record_at l i = event_at l (first_record l + 2 * i)

-- All of them, in order.
abbrev pub records : List ℕ → List Event
records l = table (record_count l) (record_at l)

-- ---- the history

-- Four bytes: node, 0, and the term with the least byte first.
abbrev pub entry_bytes : Write → List ℕ
entry_bytes w = w.node ∷ 0 ∷ w.term % 256 ∷ w.term / 256 ∷ []

unfoldable pub history_bytes : List Write → List ℕ
history_bytes [] = []
history_bytes (w ∷ ws) = entry_bytes w ++ history_bytes ws

-- A buffer once bytes are written at its front. Those after them stay.
abbrev pub over : List ℕ → List ℕ → List ℕ
over bytes buffer = bytes ++ drop (length bytes) buffer
