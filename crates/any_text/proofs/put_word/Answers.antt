use Rattle.any_text.specs.Puts.{put-more}
use Rattle.any_text.proofs.put_word.Goals as goal

pub loop-byte-preserved : goal.loop-byte-preserved
loop-byte-preserved c = put-more c.args.word.now c.loop-byte.byte-index c.loop-byte-test.true c.loop-byte.invariant c.put_byte-next.ensures
