-- For who steps: an answer of 0 gives what the effect asks for, and the effect sees neither whether the switch runs nor how long the history is.
-- Assumes nothing.
use mathlib.Core.Path.{◌≡◌, refl}
use mathlib.Core.Bool.{Bool, true, false, cond}
use mathlib.Core.List.{List, [], ◌∷◌}
use Prim.Native.Nat.{ℕ}
use Rattle.rules.specs.Codes.{step_done}
use Rattle.rules.specs.State as S
use Rattle.rules.specs.Queues.{first}
use Rattle.rules.specs.Part.{decide}
use Rattle.rules.specs.Parts.{Served}
use Rattle.rules.specs.Rules.{no_request, is_write, accepts, handle_write_rule}
use Rattle.step_state.specs.Reads.{answer_of, served_of}
use Rattle.step_state.specs.Stores.{hold_accepted, pack_accepted}
use Rattle.step_state.specs.declared.Stream.{Stream}
use Rattle.step_state.specs.declared.Claims.{Claims}
use Rattle.step_streams.proofs.Answers.{clear}
use Rattle.step_streams.proofs.Waiting.{running-too, message}
use Rattle.step_switch_row.specs.Asks.{AtStream, CanWrite}
use Rattle.step_switch_row.specs.Handled.{store_handled}

module _ (n : ℕ) (running : Bool) (stream : Stream) (claims : Claims) (writes : ℕ) where
  pub write-can : AtStream n stream → answer_of (decide (handle_write_rule n) (served_of n running stream claims writes)) ≡ step_done → CanWrite n stream claims
  unfolding handle_write_rule
  write-can h e =
      let v = served_of n running stream claims writes in
      let tests = clear (handle_write_rule n) v e in
      record { head = record { at = h; allowed = running-too running stream (is_write (message stream)) tests.allowed }; roomy = tests.queues_left }

  pub write-effect : (handle_write_rule n).effect (served_of n true stream claims 0) ≡ (handle_write_rule n).effect (served_of n running stream claims writes)
  unfolding handle_write_rule accepts
  write-effect = refl

-- The write that joins the history is what the rule appends.
pub accepted-back : (n : ℕ) (v : Served) (s : Stream) → hold_accepted (store_handled ((handle_write_rule n).effect v) s).accepted ≡ ((handle_write_rule n).effect v).accepted
unfolding store_handled handle_write_rule
accepted-back n v s = go (accepts n v)
  where
    go : (b : Bool) → let l : List S.Write = cond b (record { node = n; term = (first no_request v.requests).term } ∷ []) [] in ◌≡◌ {A = List S.Write} (hold_accepted (pack_accepted l)) l
    go true = refl
    go false = refl
