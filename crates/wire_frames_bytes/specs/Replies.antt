-- What a host is told of a frame, by what the code has read. Assumes nothing.
use Rattle.std.specs.Prelude.{◌≡◌, refl, List, ◌++◌, ℕ, ◌+◌, ◌-◌, ◌<◌, ◌≤◌, length, drop, Result, Ok, Err}
use Rattle.std.proofs.Common.{sym, ◌∙◌, arith, length-append, length-drop, le-leb}
use Rattle.std.proofs.Math.Path.{ap}
use Rattle.std.proofs.lemmas.List.Edits.{sets-eq}
use Rattle.std.proofs.lemmas.Bool.{lt-leb}
use Rattle.any_text.specs.Put.{Put}
use Rattle.wire_bytes.specs.Bytes.{out_too_short}
use Rattle.wire_bytes.specs.Little.{little-length}
use Rattle.wire_frames.specs.Frames.{refusal_number, kind_of, frame_at}
use Rattle.wire_frames.specs.declared.Refusal.{Refusal}
use Rattle.wire_frames.specs.declared.Refusal.TheVariants.{CutShort}
use Rattle.wire_frames.specs.Framing.{frame-none, frame-inside}
use Rattle.wire_frames.specs.declared.Frame.{Frame}
use Rattle.wire_frames_bytes.specs.Reply.{reply_bytes, reply_length, carrying, FrameReply, reply_of, frame_reply}

pub reply-length : (at : ℕ) (f : Frame) → length (reply_bytes at f) ≡ reply_length
reply-length at f = simp (length-append, little-length)

pub reply-put : (at : ℕ) (f : Frame) (before after : List ℕ) (next : ℕ) → reply_length ≤ length before → Put before 0 (reply_bytes at f) after next → after ≡ reply_bytes at f ++ drop reply_length before
reply-put at f before after next room p =
    let n = reply-length at f in
    let all : 0 + length (reply_bytes at f) ≡ reply_length = omega arith in
    p.content ∙ sets-eq (reply_bytes at f) before 0 (omega arith) ∙ ap (λ (k : ℕ). reply_bytes at f ++ drop k before) all

-- What is returned and the buffer, each by itself.
both : {r s : FrameReply} → r ≡ s → (r.returned ≡ s.returned) × (r.out ≡ s.out)
both e = (ap (λ (x : FrameReply). x.returned) e, ap (λ (x : FrameReply). x.out) e)

-- What was read from an offset on: nothing behind the end.
abbrev pub ReadFrom : List ℕ → ℕ → Result Frame Refusal → Type 0
ReadFrom capture at read = read ≡ frame_at (drop at capture)

module _ (capture : List ℕ) (at : ℕ) where
  pub reads_nothing : length capture < at → ReadFrom capture at (Err CutShort)
  reads_nothing beyond = let n = length-drop at capture in frame-none (drop at capture) (omega arith)

module _ (capture : List ℕ) (at : ℕ) (out : List ℕ) where
  reply-by : (read : Result Frame Refusal) → ReadFrom capture at read → (t : FrameReply) → reply_of at read out ≡ t
      → (t.returned ≡ (frame_reply capture at out).returned) × (t.out ≡ (frame_reply capture at out).out)
  unfolding frame_reply
  reply-by read is t e = both (sym e ∙ ap (λ (x : Result Frame Refusal). reply_of at x out) is)

  pub tells-refusal : (why : Refusal) → ReadFrom capture at (Err why) → (refusal_number why ≡ (frame_reply capture at out).returned) × (out ≡ (frame_reply capture at out).out)
  tells-refusal why is = reply-by (Err why) is (record { returned = refusal_number why; out = out }) refl

  pub tells-nothing : length capture < at → (21 ≡ (frame_reply capture at out).returned) × (out ≡ (frame_reply capture at out).out)
  tells-nothing beyond = tells-refusal CutShort (reads_nothing capture at beyond)

  module _ (f : Frame) (is : ReadFrom capture at (Ok f)) where
    pub size-inside : f.size ≤ length capture - at
    size-inside = let n = length-drop at capture in let k = frame-inside (drop at capture) f is in omega arith

    pub next-inside : at ≤ length capture → at + f.size ≤ length capture
    next-inside h = let k = size-inside in omega arith

    pub tells-short : length out < reply_length → (12 ≡ (frame_reply capture at out).returned) × (out ≡ (frame_reply capture at out).out)
    tells-short short = reply-by (Ok f) is (record { returned = out_too_short; out = out }) (simp (lt-leb reply_length (length out) short))

    pub tells-frame : reply_length ≤ length out → (carrying + kind_of f.carried ≡ (frame_reply capture at out).returned) × (reply_bytes at f ++ drop reply_length out ≡ (frame_reply capture at out).out)
    tells-frame room = reply-by (Ok f) is (record { returned = carrying + kind_of f.carried; out = reply_bytes at f ++ drop reply_length out }) (simp (le-leb reply_length (length out) room))
