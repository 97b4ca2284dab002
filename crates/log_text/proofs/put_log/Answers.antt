use Rattle.std.proofs.Common.{ap, ◌∙◌, arith}
use Rattle.any_text.specs.Line.{spaced, line}
use Rattle.merge_text.specs.Says.{put_as}
use Rattle.log_records.specs.Rows.{rows_of}
use Rattle.log_doubts.specs.Found.{found-front, found-few}
use Rattle.log_text.specs.Answer.{pair_text, shown, most_shown}
use Rattle.log_text.specs.Showing.{log-same, log-shown}
use Rattle.log_text.proofs.put_log.Goals as goal

pub returns-then-pairs-eq0 : goal.returns-then-pairs-eq0
unfolding line spaced
returns-then-pairs-eq0 c = let m = c.args.merge.now in (put_as (log-same m.nodes m.bound (rows_of m.records.now) c.first_pairs-pairs.ensures.all c.if-pairs-eq0.true) c.put_word.ensures, omega arith)

pub put_doubts-requires : goal.put_doubts-requires
put_doubts-requires c = (c.requires.1, found-front c.first_pairs-pairs.ensures (found-few _ c.first_pairs-pairs.ensures))

pub returns : goal.returns
returns c =
    let m = c.args.merge.now in
    let rows = rows_of m.records.now in (
      put_as (ap (shown (pair_text m.nodes m.bound rows) most_shown) (found-front c.first_pairs-pairs.ensures (found-few _ c.first_pairs-pairs.ensures)) ∙ log-shown m.nodes m.bound rows c.first_pairs-pairs.ensures.all c.if-pairs-eq0.false) c.put_doubts.ensures.0,
      c.put_doubts.ensures.1,
    )
