-- What the program `captured` prints: a text for each frame, and a line at the end.
use Rattle.std.specs.Prelude.{cond, List, [], ◌∷◌, ◌++◌, ℕ, eqb, Result, Ok, Err}
use Rattle.any_text.specs.Decimal.{decimal}
use Rattle.any_text.specs.Line.{line}
use Rattle.wire_text.specs.Printout.{field_lines}
use Rattle.wire_frames.specs.Frames.{refusal_number}
use Rattle.wire_frames.specs.declared.Refusal.{Refusal}
use Rattle.wire_frames.specs.declared.Carried.{Carried}
use Rattle.wire_frames.specs.declared.Carried.TheVariants.{Nothing, Arbitration, Other}
use Rattle.wire_frames.specs.declared.Frame.{Frame}

-- " nothing" and a newline
abbrev pub nothing_word : List ℕ
nothing_word = 32 ∷ 110 ∷ 111 ∷ 116 ∷ 104 ∷ 105 ∷ 110 ∷ 103 ∷ 10 ∷ []

-- " arbitration" and a newline
abbrev pub arbitration_word : List ℕ
arbitration_word = 32 ∷ 97 ∷ 114 ∷ 98 ∷ 105 ∷ 116 ∷ 114 ∷ 97 ∷ 116 ∷ 105 ∷ 111 ∷ 110 ∷ 10 ∷ []

-- " packet" and a newline
abbrev pub packet_word : List ℕ
packet_word = 32 ∷ 112 ∷ 97 ∷ 99 ∷ 107 ∷ 101 ∷ 116 ∷ 10 ∷ []

-- " field"
abbrev pub field_word : List ℕ
field_word = 32 ∷ 102 ∷ 105 ∷ 101 ∷ 108 ∷ 100 ∷ []

-- "refused frame"
abbrev pub refused_word : List ℕ
refused_word = 114 ∷ 101 ∷ 102 ∷ 117 ∷ 115 ∷ 101 ∷ 100 ∷ 32 ∷ 102 ∷ 114 ∷ 97 ∷ 109 ∷ 101 ∷ []

-- "frames"
abbrev pub frames_word : List ℕ
frames_word = 102 ∷ 114 ∷ 97 ∷ 109 ∷ 101 ∷ 115 ∷ []

-- What a frame carries: of an arbitration message the fields, and of an alternative whose name depends on the direction the field number.
unfoldable pub carried_text : Carried → List ℕ
carried_text Nothing = nothing_word
carried_text (Arbitration r) = arbitration_word ++ field_lines r
carried_text (Other k) = cond (eqb k 2) packet_word (line field_word (k ∷ []))

-- The frame's number and what it carries; or number, offset and refusal.
unfoldable pub frame_text : ℕ → ℕ → Result Frame Refusal → List ℕ
frame_text number offset (Ok f) = decimal number ++ carried_text f.carried
frame_text number offset (Err why) = line refused_word (number ∷ offset ∷ refusal_number why ∷ [])

-- How many frames were read.
abbrev pub end_text : ℕ → List ℕ
end_text number = line frames_word (number ∷ [])
