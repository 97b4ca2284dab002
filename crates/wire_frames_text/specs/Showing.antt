-- Which text a frame has. Assumes nothing.
use Rattle.std.specs.Prelude.{◌≡◌, refl, ◌≢◌, [], ◌∷◌, ◌++◌, ℕ, Ok, Err}
use borrow.Author.Tests.{eq-eqb, ne_eqb}
use Rattle.any_text.specs.Decimal.{decimal}
use Rattle.any_text.specs.Line.{line}
use Rattle.wire_text.specs.Printout.{field_lines}
use Rattle.wire_arbitration.specs.declared.Raw.{Raw}
use Rattle.wire_frames.specs.Frames.{refusal_number}
use Rattle.wire_frames.specs.declared.Refusal.{Refusal}
use Rattle.wire_frames.specs.declared.Carried.TheVariants.{Nothing, Arbitration, Other}
use Rattle.wire_frames.specs.declared.Frame.{Frame}
use Rattle.wire_frames_text.specs.Shown.{nothing_word, arbitration_word, packet_word, field_word, refused_word, carried_text, frame_text}

pub shows_nothing : carried_text Nothing ≡ nothing_word
unfolding carried_text
shows_nothing = refl

pub shows-arbitration : (r : Raw) → carried_text (Arbitration r) ≡ arbitration_word ++ field_lines r
unfolding carried_text
shows-arbitration r = refl

pub shows-packet : (k : ℕ) → k ≡ 2 → carried_text (Other k) ≡ packet_word
unfolding carried_text
shows-packet k e = simp (eq-eqb k 2 e)

pub shows-field : (k : ℕ) → k ≢ 2 → carried_text (Other k) ≡ line field_word (k ∷ [])
unfolding carried_text
shows-field k n = simp (ne_eqb k 2 n)

module _ (number offset : ℕ) where
  pub shows-carried : (f : Frame) → frame_text number offset (Ok f) ≡ decimal number ++ carried_text f.carried
  unfolding frame_text
  shows-carried f = refl

  pub shows-refusal : (why : Refusal) → frame_text number offset (Err why) ≡ line refused_word (number ∷ offset ∷ refusal_number why ∷ [])
  unfolding frame_text
  shows-refusal why = refl
