-- For who steps: an answer of 0 gives what the effect asks for, and the effect does not see whether the switch runs. Assumes nothing.
use mathlib.Core.Path.{◌≡◌, refl, sym, ap, ◌∙◌}
use mathlib.Core.Bool.{Bool, true, false}
use mathlib.Core.List.{List}
use Prim.Native.Nat.{ℕ, ◌-◌}
use lib.ListN.{get_or}
use Rattle.rules.specs.Codes.{step_done}
use Rattle.rules.specs.Queues.{first, empty}
use Rattle.rules.specs.Part.{decide}
use Rattle.rules.specs.Rules.{no_request, is_update, held_left, opens_left, responses_left, held_with, closed, updated, close_room, close_rule, handle_update_rule}
use Rattle.step_state.specs.Reads.{answer_of, told_of}
use Rattle.step_state.specs.declared.Stream.{Stream}
use Rattle.step_state.specs.declared.Claims.{Claims}
use Rattle.step_streams.proofs.Answers.{clear}
use Rattle.step_streams.proofs.Waiting.{three}
use Rattle.step_switch.specs.Asks.{AtBoard, Tells}

module _ (count n : ℕ) (running : Bool) (streams : List Stream) (claims : Claims) where
  pub close-tells : AtBoard count n streams claims → answer_of (decide (close_rule n) (told_of count n running streams claims)) ≡ step_done → Tells close_rule count n streams claims
  unfolding decide close_rule close_room closed held_left opens_left responses_left
  close-tells h e = record { at = h; goes = e }

  pub close-effect : (close_rule n).effect (told_of count n true streams claims) ≡ (close_rule n).effect (told_of count n running streams claims)
  unfolding close_rule closed held_left opens_left responses_left
  close-effect = refl

  pub update-tells : AtBoard count n streams claims → answer_of (decide (handle_update_rule n) (told_of count n running streams claims)) ≡ step_done → Tells handle_update_rule count n streams claims
  unfolding handle_update_rule
  update-tells h e =
      let v = told_of count n running streams claims in
      let runs = (three running (get_or v.opens (n - 1) false) (empty v.requests) (is_update (first no_request v.requests).message) (clear (handle_update_rule n) v e).allowed).0 in
      record { at = h; goes = ap (λ (b : Bool). answer_of (decide (handle_update_rule n) (told_of count n b streams claims))) (sym runs) ∙ e }

  pub update-effect : (handle_update_rule n).effect (told_of count n true streams claims) ≡ (handle_update_rule n).effect (told_of count n running streams claims)
  unfolding handle_update_rule closed held_left opens_left responses_left updated held_with
  update-effect = refl
