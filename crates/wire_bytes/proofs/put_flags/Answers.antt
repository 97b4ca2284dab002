use Rattle.any_text.specs.Puts.{put_then}
use Rattle.wire_bytes.proofs.put_flags.Goals as goal

pub returns : goal.returns
returns c = put_then (put_then (put_then c.put_flag-a.ensures c.put_flag-b.ensures) c.put_flag-c.ensures) c.put_flag.ensures
