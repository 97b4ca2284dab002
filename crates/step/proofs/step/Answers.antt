use mathlib.Core.Path.{◌≡◌, sym, ◌∙◌}
use mathlib.Core.Bool.{true}
use Rattle.step_parts.specs.Answers.{refusal_code}
use Rattle.step_state.specs.Hold.{hold, represent, hold_history}
use Rattle.step_state.specs.Tidy.{state_fits}
use Rattle.step_bridge.specs.Same.{tidy-same}
use Rattle.step_bridge.proofs.Sizes.{sized}
use Rattle.step.specs.Public.{stepped}
use Rattle.step.specs.Stepping.{ready, long, room-left, settles}
use Rattle.step.proofs.step.Goals as goal
use Rattle.step.proofs.step.Goals.{Else-not-in_range}

-- The range test said yes.
fits : (c : Else-not-in_range) → state_fits c.args.state ≡ true
fits c = sym c.in_range.ensures ∙ c.if-not-in_range.false

-- So the state is what it holds, written into structs.
same : (c : Else-not-in_range) → represent (hold c.args.state) ≡ c.args.state
same c = tidy-same c.args.state (sized c.args.state _ c.well_formed.0) (fits c)

pub returns-then-not-in_range : goal.returns-then-not-in_range
unfolding stepped
returns-then-not-in_range c = simp (sym c.in_range.ensures ∙ c.if-not-in_range.true)

pub advance-requires : goal.advance-requires
advance-requires c = let g = (goal.at.advance-requires c).Else-not-in_range in ready c.args.state (fits g) (same g)

pub settled-requires : goal.settled-requires
settled-requires c =
    let s = c.args.state in
    let g = (goal.at.settled-requires c).Else-not-in_range in
    room-left s (fits g) (same g) c.args.kind c.args.node _ (c.in-Ok.ensures.leaves (hold_history s.history) (long s (fits g) (same g)))

pub returns-in-Ok : goal.returns-in-Ok
returns-in-Ok c =
    let s = c.args.state in
    let g = (goal.at.returns-in-Ok c).Else-not-in_range in
    (λ i. record { answer = 0; state = c.settled.ensures i }) ∙ settles s (fits g) (same g) c.args.kind c.args.node _ (c.in-Ok.ensures.leaves (hold_history s.history) (long s (fits g) (same g)))

pub returns-in-Err : goal.returns-in-Err
returns-in-Err c =
    let s = c.args.state in
    let g = (goal.at.returns-in-Err c).Else-not-in_range in
    let kept = sym c.in-Err.ensures.err in
    (λ i. record { answer = refusal_code c.in-Err.refusal; state = record { count = (kept i).count; running = (kept i).running; core = (kept i).core; history = s.history } })
    ∙ settles s (fits g) (same g) c.args.kind c.args.node _ (c.in-Err.ensures.leaves (hold_history s.history) (long s (fits g) (same g)))
