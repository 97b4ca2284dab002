use mathlib.Core.Path.{◌≡◌, sym, ◌∙◌}
use mathlib.Core.Bool.{true}
use Rattle.step_state.specs.Tidy.{state_fits}
use Rattle.step.specs.Public.{reported}
use Rattle.step.specs.Stepping.{few-nodes, reports}
use Rattle.step.proofs.open_streams.Goals as goal
use Rattle.step.proofs.open_streams.Goals.{Else-not-in_range}

-- The range test said yes.
fits : (c : Else-not-in_range) → state_fits c.args.state ≡ true
fits c = sym c.in_range.ensures ∙ c.if-not-in_range.false

pub returns-then-not-in_range : goal.returns-then-not-in_range
unfolding reported
returns-then-not-in_range c = simp (sym c.in_range.ensures ∙ c.if-not-in_range.true)

pub open_word-requires : goal.open_word-requires
open_word-requires c = few-nodes c.args.state (fits (goal.at.open_word-requires c).Else-not-in_range)

pub open_number-requires : goal.open_number-requires
open_number-requires c = few-nodes c.args.state (fits (goal.at.open_number-requires c).Else-not-in_range)

pub returns : goal.returns
returns c = reports c.args.state (fits (goal.at.returns c).Else-not-in_range) _ (λ i. record { code = 0; word = c.open_word.ensures i; number = c.open_number.ensures i })
