use Rattle.std.proofs.Common.{◌∙◌, get_or}
use Rattle.step_parts.specs.Hold.{no_response}
use Rattle.step_nodes.specs.Rules.{waits-closed, waits-none, waits-some}
use Rattle.step_nodes.proofs.Cases.{same-write}
use Rattle.step_nodes.proofs.may_receive_update.Goals as goal
use Rattle.step_nodes.proofs.may_receive_update.Goals.{else-stream-via-then-stream+else-stream-ne0, else-stream-via-else-stream}

pub returns-then-stream-ne0 : goal.returns-then-stream-ne0
returns-then-stream-ne0 c =
    let s = c.args.stream.now in
    c.ne.ensures ∙ (waits-some s c.requires c.if-stream.true c.if-stream-ne0.true _ (same-write (get_or s.responses.items 0 no_response).message)).0

pub returns : goal.returns
returns c = elim c.else-stream.branch [
  | else-stream-via-then-stream+else-stream-ne0 w ↦ (waits-none c.args.stream.now c.requires w.if-stream.true w.if-stream-ne0.false).0
  | else-stream-via-else-stream w ↦ (waits-closed c.args.stream.now c.requires w.if-stream.false).0
]
