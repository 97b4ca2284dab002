use Rattle.std.proofs.Common.{ap}
use Rattle.step_parts.specs.declared.Request.{Request}
use Rattle.step_streams.specs.Does.{waiting}
use Rattle.step_streams.proofs.Waiting.{some-waits, none-waits}
use Rattle.step_streams.proofs.waits.Goals as goal
use Rattle.step_streams.proofs.waits.Goals.{else-running-via-then-running+then-stream+else-stream-ne0, else-running-via-then-running+else-stream, else-running-via-else-running}

pub head-requires : goal.head-requires
head-requires c = some-waits c.args.stream c.requires c.if-stream-ne0.true

pub returns-then-stream-ne0 : goal.returns-then-stream-ne0
unfolding waiting
returns-then-stream-ne0 c =
    simp (c.if-running.true, c.if-stream.true, (some-waits c.args.stream c.requires c.if-stream-ne0.true).some) (ap (λ (r : Request). r.message) c.head.ensures)

pub returns : goal.returns
unfolding waiting
returns c = elim c.else-running.branch [
  | else-running-via-then-running+then-stream+else-stream-ne0 w ↦
      simp (w.if-running.true, w.if-stream.true, none-waits c.args.stream c.requires w.if-stream-ne0.false)
  | else-running-via-then-running+else-stream w ↦ simp (w.if-running.true, w.if-stream.false)
  | else-running-via-else-running w ↦ simp w.if-running.false
]
