-- The frames of a gRPC stream, one direction of it: what stands at the front of bytes.
use Rattle.std.specs.Prelude.{Bool, true, false, cond, not, ◌&&◌, ◌||◌, List, ℕ, ◌+◌, ◌*◌, eqb, leb, length, get_or, take, drop, Result, Ok, Err}
use Rattle.wire_fields.specs.Numbers.{code_of}
use Rattle.wire_fields.specs.Messages.{Reading, mapped}
use Rattle.wire_fields.specs.declared.Fault.{Fault}
use Rattle.wire_arbitration.specs.Update.{reading}
use Rattle.wire_arbitration.specs.Seen.{seen, raw_of}
use Rattle.wire_arbitration.specs.Raw.{nothing_said}
use Rattle.wire_arbitration.specs.declared.Raw.{Raw}
use Rattle.wire_frames.specs.Stream.{Carried, nothing, arbitration, other, carried}
use Rattle.wire_frames.specs.declared.Refusal.{Refusal}
use Rattle.wire_frames.specs.declared.Refusal.TheVariants.{CutShort, Compressed, Message, Reader}
use Rattle.wire_frames.specs.declared.Carried.{Carried as Kept}
use Rattle.wire_frames.specs.declared.Carried.TheVariants.{Nothing, Arbitration, Other}
use Rattle.wire_frames.specs.declared.Frame.{Frame}

-- A frame is a flag, a length of four bytes with the greatest first, and as many bytes.
abbrev pub head_length : ℕ
head_length = 5

-- How many bytes the frame holds, by its head. Where the head is cut short or says that the bytes are compressed, 0.
unfoldable pub held_length : List ℕ → ℕ
held_length l =
    cond (leb head_length (length l) && eqb (get_or l 0 0) 0)
    (16777216 * get_or l 1 0 + 65536 * get_or l 2 0 + 256 * get_or l 3 0 + get_or l 4 0)
    0

pub data Framed : Type 0 where
  -- What the frame holds.
  frame : List ℕ → Framed
  -- The bytes end before the frame does.
  cut_short : Framed
  -- The flag is not 0.
  compressed : Framed

-- The flag is judged first; of no bytes it is 0, and they are cut short.
unfoldable pub framed : List ℕ → Framed
framed l =
    cond (eqb (get_or l 0 0) 0)
    (cond (leb (head_length + held_length l) (length l)) (frame (take (held_length l) (drop head_length l))) cut_short)
    compressed

-- ---- what reading a frame gives

abbrev pub frame_cut_short : ℕ
frame_cut_short = 21

abbrev pub frame_compressed : ℕ
frame_compressed = 22

-- The number of each refusal, as programs print it and hosts are told it.
abbrev pub refusal_number : Refusal → ℕ
refusal_number CutShort = frame_cut_short
refusal_number Compressed = frame_compressed
refusal_number (Message why) = code_of why
refusal_number (Reader number) = number

-- What the code has of what a message carries: of an arbitration message its fields.
abbrev pub carried_as : Carried → Kept
carried_as nothing = Nothing
carried_as (arbitration u) = Arbitration (seen u)
carried_as (other k) = Other k

-- Kind 0 is a message that carries nothing, and any other the alternative's field number.
abbrev pub kind_of : Kept → ℕ
kind_of Nothing = 0
kind_of (Arbitration r) = 1
kind_of (Other k) = k

-- The fields are those of the arbitration message, if it carries one.
abbrev pub fields_of : Kept → Raw
fields_of Nothing = nothing_said
fields_of (Arbitration r) = r
fields_of (Other k) = nothing_said

abbrev pub message_of : Reading Carried → Result Kept Fault
message_of r = mapped carried_as r

abbrev pub sized : ℕ → Result Kept Fault → Result Frame Refusal
sized size (Ok c) = Ok (record { size = size; carried = c })
sized size (Err why) = Err (Message why)

abbrev pub frame_of : Framed → Result Frame Refusal
frame_of (frame held) = sized (head_length + length held) (message_of (carried held))
frame_of cut_short = Err CutShort
frame_of compressed = Err Compressed

-- The frame at the front of bytes; its size is with its head.
unfoldable pub frame_at : List ℕ → Result Frame Refusal
frame_at l = frame_of (framed l)

-- ---- bytes that are taken for an arbitration message and are none

-- Neither cut short nor compressed, nor refused by a program that reads frames.
abbrev pub is_frame : Result Frame Refusal → Bool
is_frame (Ok f) = true
is_frame (Err CutShort) = false
is_frame (Err Compressed) = false
is_frame (Err (Message why)) = true
is_frame (Err (Reader number)) = false

abbrev pub is_arbitration : Result Kept Fault → Bool
is_arbitration (Ok Nothing) = false
is_arbitration (Ok (Arbitration r)) = true
is_arbitration (Ok (Other k)) = false
is_arbitration (Err why) = false

-- Beside a fault nothing is said.
abbrev pub says_nothing : Result Raw Fault → Bool
says_nothing (Ok r) = not r.role && not r.election && not r.status && eqb r.device 0
says_nothing (Err why) = true

-- By the frame at their front, by the stream message that they are, and by the arbitration message that they are taken for.
abbrev pub streamed : Result Frame Refusal → Result Kept Fault → Result Raw Fault → Bool
streamed first all said = is_frame first || (is_arbitration all && says_nothing said)

-- A frame that is neither cut short nor compressed; or a stream message that carries an arbitration message and says nothing if it is taken for one.
unfoldable pub looks_streamed : List ℕ → Bool
looks_streamed l = streamed (frame_at l) (message_of (carried l)) (raw_of (reading l))
