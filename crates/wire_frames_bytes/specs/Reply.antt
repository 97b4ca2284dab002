-- What reading a frame of a capture into a lent buffer gives: the fields of its arbitration message, and where the next frame begins.
use Rattle.std.specs.Prelude.{cond, List, ◌++◌, ℕ, ◌+◌, leb, length, drop, Result, Ok, Err}
use Rattle.wire_bytes.specs.Bytes.{little, field_bytes, out_too_short}
use Rattle.wire_frames.specs.Frames.{refusal_number, kind_of, fields_of, frame_at}
use Rattle.wire_frames.specs.declared.Refusal.{Refusal}
use Rattle.wire_frames.specs.declared.Frame.{Frame}

-- The fields as forty bytes, all 0 without an arbitration message, and the offset behind the frame.
abbrev pub reply_bytes : ℕ → Frame → List ℕ
reply_bytes at f = field_bytes (fields_of f.carried) ++ little 8 (at + f.size)

abbrev pub reply_length : ℕ
reply_length = 48

-- What a frame that was read returns: this number plus the alternative.
abbrev pub carrying : ℕ
carrying = 256

pub record FrameReply : Type 0 where
  pub returned : ℕ
  pub out : List ℕ

-- A refusal leaves the buffer. A frame that cannot be read is refused before a buffer that is too short.
abbrev pub reply_of : ℕ → Result Frame Refusal → List ℕ → FrameReply
reply_of at (Ok f) out =
    cond (leb reply_length (length out))
    (record { returned = carrying + kind_of f.carried; out = reply_bytes at f ++ drop reply_length out })
    (record { returned = out_too_short; out = out })
reply_of at (Err why) out = record { returned = refusal_number why; out = out }

-- The frame that begins at an offset. Behind the end there is none: it is cut short.
unfoldable pub frame_reply : List ℕ → ℕ → List ℕ → FrameReply
frame_reply capture at out = reply_of at (frame_at (drop at capture)) out
