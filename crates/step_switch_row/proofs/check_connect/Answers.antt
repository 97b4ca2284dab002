use Rattle.rules.specs.Part.{decide}
use Rattle.rules.specs.Rules.{connect_rule}
use Rattle.step_switch_row.proofs.check_connect.Goals as goal
use Rattle.step_switch_row.proofs.check_connect.Goals.{then-not-running-via-then-not-running, then-not-running-via-else-not-running+then-stream}

pub returns-then-not-running : goal.returns-then-not-running
unfolding decide connect_rule
returns-then-not-running c =
    elim c.then-not-running.branch [
      | then-not-running-via-then-not-running w ↦ simp w.if-not-running.true
      | then-not-running-via-else-not-running+then-stream w ↦ simp (w.if-not-running.false, w.if-stream.true)
    ]

pub returns : goal.returns
unfolding decide connect_rule
returns c = simp (c.if-not-running.false, c.if-stream.false)
