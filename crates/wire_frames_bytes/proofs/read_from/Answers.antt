use Rattle.std.proofs.Common.{rules}
use Rattle.wire_frames_bytes.specs.Replies.{reads_nothing}
use Rattle.wire_frames_bytes.proofs.read_from.Goals as goal

pub returns-in-None : goal.returns-in-None
returns-in-None c = reads_nothing c.args.capture.now c.args.at (search rules)
