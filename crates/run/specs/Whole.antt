-- A run of a whole list that is not refused: every record is answered, and the history has room. Assumes nothing.
use Rattle.std.specs.Prelude.{◌≡◌, List, ℕ, ◌≤◌, length}
use Rattle.std.proofs.Common.{◌∙◌}
use Rattle.rules.specs.Limits.{history_length}
use Rattle.rules.specs.Step.{step, fresh}
use Rattle.rules_laws.specs.RangeTest.{range-sound}
use Rattle.rules_laws.specs.Runs.{run_length}
use Rattle.rules_laws.specs.Steps.{run-keeps, fresh-fits}
use Rattle.run_lists.specs.EventList.{node_count, record_count, records}
use Rattle.run_lists.specs.Good.{Good, records-length}
use Rattle.run.specs.Ran.{whole_run}

module _ (list : List ℕ) (good : Good list) where
  pub all-answered : length (whole_run list).answer ≡ record_count list
  all-answered = run_length step (fresh (node_count list)) (records list) ∙ records-length list

  pub few-writes : length (whole_run list).state.history ≤ history_length
  few-writes = (range-sound (whole_run list).state (run-keeps (records list) (fresh (node_count list)) (fresh-fits (node_count list) good.nodes.lower good.nodes.upper))).history-size
