-- Which frame stands at the front of bytes, by its flag and its length. Assumes nothing.
use Rattle.std.specs.Prelude.{◌≡◌, refl, ◌≢◌, Bool, true, false, cond, List, [], ◌∷◌, ℕ, ◌+◌, ◌*◌, ◌<◌, ◌≤◌, leb, eqb, length, get_or, take, drop, Result, Ok, Err}
use Rattle.std.proofs.Common.{sym, ap, ◌∙◌, arith}
use Rattle.std.specs.Int.{w32, from_be_bytes}
use Rattle.std.proofs.Math.ListN.{length-drop}
use Rattle.std.proofs.Math.Seq.{length-take-le}
use borrow.Author.Tests.{eq-eqb, ne_eqb, leb-true, le-leb, lt-leb}
use Rattle.wire_fields.specs.Readers.{no-ok, same-ok}
use Rattle.wire_fields.specs.declared.Fault.{Fault}
use Rattle.wire_frames.specs.Stream.{carried}
use Rattle.wire_frames.specs.Frames.{held_length, frame, cut_short, compressed, framed, message_of, sized, frame_of, frame_at, is_frame, is_arbitration, says_nothing, streamed, looks_streamed}
use Rattle.wire_arbitration.specs.Update.{reading}
use Rattle.wire_arbitration.specs.Seen.{raw_of}
use Rattle.wire_arbitration.specs.declared.Raw.{Raw}
use Rattle.wire_frames.specs.declared.Refusal.{Refusal}
use Rattle.wire_frames.specs.declared.Refusal.TheVariants.{CutShort, Compressed}
use Rattle.wire_frames.specs.declared.Carried.{Carried as Kept}
use Rattle.wire_frames.specs.declared.Frame.{Frame}

module _ (l : List ℕ) where
  pub held_none : length l < 5 → held_length l ≡ 0
  unfolding held_length
  held_none h = simp (lt-leb 5 (length l) h)

  pub held-compressed : 5 ≤ length l → get_or l 0 0 ≢ 0 → held_length l ≡ 0
  unfolding held_length
  held-compressed h n = simp (le-leb 5 (length l) h, ne_eqb (get_or l 0 0) 0 n)

  pub held-said : 5 ≤ length l → get_or l 0 0 ≡ 0 → held_length l ≡ 16777216 * get_or l 1 0 + 65536 * get_or l 2 0 + 256 * get_or l 3 0 + get_or l 4 0
  unfolding held_length
  held-said h e = simp (le-leb 5 (length l) h, eq-eqb (get_or l 0 0) 0 e)

  -- Four bytes with the greatest first.
  pub said_length : (a b c d : ℕ) → from_be_bytes w32 (a ∷ b ∷ c ∷ d ∷ []) ≡ 16777216 * a + 65536 * b + 256 * c + d
  said_length a b c d = omega arith

  pub frame-compressed : get_or l 0 0 ≢ 0 → Err Compressed ≡ frame_at l
  unfolding frame_at framed
  frame-compressed n = simp (ne_eqb (get_or l 0 0) 0 n)

  module _ (plain : get_or l 0 0 ≡ 0) where
    pub frame-short : length l < 5 + held_length l → Err CutShort ≡ frame_at l
    unfolding frame_at framed
    frame-short h = simp (eq-eqb (get_or l 0 0) 0 plain, lt-leb (5 + held_length l) (length l) h)

    pub frame-stands : 5 + held_length l ≤ length l → sized (5 + held_length l) (message_of (carried (take (held_length l) (drop 5 l)))) ≡ frame_at l
    unfolding frame_at framed
    frame-stands h =
        let n = length-drop 5 l in
        let k = length-take-le (held_length l) (drop 5 l) (omega arith) in
        simp (eq-eqb (get_or l 0 0) 0 plain, le-leb (5 + held_length l) (length l) h) (ap (λ (k : ℕ). sized (5 + k) (message_of (carried (take (held_length l) (drop 5 l))))) (sym k))

pub frame-none : (l : List ℕ) → length l ≡ 0 → Err CutShort ≡ frame_at l
frame-none [] e = frame-short [] refl (omega arith)
frame-none (b ∷ l) e = absurd (omega arith)

-- ---- a frame ends within the bytes

pub frame-inside : (l : List ℕ) (f : Frame) → Ok f ≡ frame_at l → f.size ≤ length l
unfolding frame_at framed
frame-inside l f is = go (eqb (get_or l 0 0) 0) (leb (5 + held_length l) (length l)) refl is
  where
    holds : (held : List ℕ) → 5 + length held ≤ length l → (c : Result Kept Fault) → Ok f ≡ sized (5 + length held) c → f.size ≤ length l
    holds held fits (Ok c) e = let same = ap (λ (x : Frame). x.size) (same-ok e) in omega arith
    holds held fits (Err why) e = absurd (no-ok e)

    go : (a b : Bool) → leb (5 + held_length l) (length l) ≡ b → Ok f ≡ frame_of (cond a (cond b (frame (take (held_length l) (drop 5 l))) cut_short) compressed) → f.size ≤ length l
    go true true h e =
        let k = leb-true (5 + held_length l) (length l) h in
        let n = length-drop 5 l in
        let m = length-take-le (held_length l) (drop 5 l) (omega arith) in
        holds (take (held_length l) (drop 5 l)) (omega arith) (message_of (carried (take (held_length l) (drop 5 l)))) e
    go true false h e = absurd (no-ok e)
    go false b h e = absurd (no-ok e)

-- ---- bytes that are taken for an arbitration message

module _ (l : List ℕ) (f : Result Frame Refusal) (is : f ≡ frame_at l) where
  pub looks : (all : Result Kept Fault) (said : Result Raw Fault) → all ≡ message_of (carried l) → said ≡ raw_of (reading l) → streamed f all said ≡ looks_streamed l
  unfolding looks_streamed
  looks all said carries says = rw (is, carries, says) refl

  pub looks-framed : is_frame f ≡ true → true ≡ looks_streamed l
  looks-framed h = let so : true ≡ streamed f (message_of (carried l)) (raw_of (reading l)) = simp h in so ∙ looks _ _ refl refl

  module _ (not_frame : is_frame f ≡ false) (all : Result Kept Fault) (carries : all ≡ message_of (carried l)) where
    pub looks-other : is_arbitration all ≡ false → false ≡ looks_streamed l
    looks-other h = let so : false ≡ streamed f all (raw_of (reading l)) = simp (not_frame, h) in so ∙ looks _ _ carries refl

    pub looks-said : is_arbitration all ≡ true → (said : Result Raw Fault) → said ≡ raw_of (reading l) → says_nothing said ≡ looks_streamed l
    looks-said h said e = let so : says_nothing said ≡ streamed f all said = simp (not_frame, h) in so ∙ looks _ _ carries e
