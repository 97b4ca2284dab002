-- What the public functions give, by the step of the rules.
use Rattle.std.specs.Prelude.{false, cond, [], ℕ, Ok, Err}
use Rattle.std.specs.Prelude as P
use Rattle.rules.specs.Codes.{step_done, out_of_range, bad_node_count}
use Rattle.rules.specs.Limits.{most_nodes}
use Rattle.rules.specs.State as S
use Rattle.rules.specs.Range.{within}
use Rattle.rules.specs.Part.{Result}
use Rattle.rules.specs.Step as Rules
use Rattle.rules.specs.Open.{Report, open_report}
use Rattle.step_parts.specs.Answers.{refusal_code, code_of}
use Rattle.step_parts.specs.declared.Refusal.{Refusal}
use Rattle.step_state.specs.Hold.{hold, represent}
use Rattle.step_state.specs.Tidy.{state_fits}
use Rattle.step_state.specs.declared.State.{State}
use Rattle.step.specs.declared.Stepped.{Stepped}
use Rattle.step.specs.declared.Open.{Open}

-- What a function gave, its answer as a number.
abbrev pub numbered : Stepped → Result ℕ State
numbered r = record { answer = code_of r.answer; state = r.state }

-- The rules' result, with its state written into structs.
abbrev pub written : Result ℕ S.State → Result ℕ State
written t = record { answer = t.answer; state = represent t.state }

-- The step of the rules on what the state holds. A state that is not in range is left as it is.
unfoldable pub stepped : State → ℕ → ℕ → Result ℕ State
stepped s kind node =
    cond (state_fits s)
    (written (Rules.step (record { kind = kind; node = node }) (hold s)))
    (record { answer = out_of_range; state = s })

-- The state that is all zero: no nodes, and a switch that does not run.
abbrev pub all_zero : S.State
all_zero = record { count = 0; running = false; history = []; core = (Rules.fresh 0).core }

unfoldable pub freshened : ℕ → Result ℕ State
freshened nodes =
    cond (within 1 most_nodes nodes)
    (record { answer = step_done; state = represent (Rules.fresh nodes) })
    (record { answer = bad_node_count; state = represent all_zero })

-- What is told of the open streams, its answer as a number: both numbers are 0 beside one that is not 0.
abbrev pub told : P.Result Open Refusal → Report
told (Ok o) = record { code = step_done; word = o.word; number = o.number }
told (Err r) = record { code = refusal_code r; word = 0; number = 0 }

-- The report of the rules on what the state holds.
unfoldable pub reported : State → Report
reported s =
    cond (state_fits s)
    (open_report (hold s))
    (record { code = out_of_range; word = 0; number = 0 })
