-- What running a list gives: what is returned, and the whole output buffer. A refused list leaves the buffer as it was.
use Rattle.std.specs.Prelude.{cond, List, ◌++◌, ℕ, ◌+◌, ◌*◌, length, eqb, leb}
use Rattle.rules.specs.Codes.{out_too_short}
use Rattle.rules.specs.Limits.{history_length}
use Rattle.rules.specs.State.{State}
use Rattle.rules.specs.Part.{Result}
use Rattle.rules.specs.Step.{step, fresh}
use Rattle.rules.specs.Run.{run}
use Rattle.run_lists.specs.EventList.{node_count, record_count, records, refusal, need, history_bytes, over}

-- The bytes behind the answers: room for a full history.
abbrev pub history_room : ℕ
history_room = 4 * history_length

-- What is returned for a run without writes.
abbrev pub no_writes : ℕ
no_writes = 256

-- Why a run is refused, lower numbers first; 0 for one that is not.
unfoldable pub run_refusal : List ℕ → List ℕ → ℕ
run_refusal list out =
    cond (eqb (refusal list) 0)
    (need (leb (record_count list + history_room) (length out)) out_too_short 0)
    (refusal list)

-- The answers to all records, in order, and the state that they leave.
abbrev pub whole_run : List ℕ → Result (List ℕ) State
whole_run list = run step (fresh (node_count list)) (records list)

pub record Ran : Type 0 where
  pub returned : ℕ
  pub out : List ℕ

-- The history follows the answers at once, and the bytes after it stay.
abbrev pub completed : Result (List ℕ) State → List ℕ → Ran
completed t out = record {
  returned = no_writes + length t.state.history;
  out = over (t.answer ++ history_bytes t.state.history) out;
}

unfoldable pub ran : List ℕ → List ℕ → Ran
ran list out =
    cond (eqb (run_refusal list out) 0)
    (completed (whole_run list) out)
    (record { returned = run_refusal list out; out = out })
