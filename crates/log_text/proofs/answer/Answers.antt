use Rattle.std.proofs.Common.{refl, sym, arith, length-take-le, rules}
use Rattle.any_text.specs.Puts.{put-length}
use Rattle.merge_text.specs.Says.{put_as}
use Rattle.any_text.specs.Line.{spaced, line}
use Rattle.log_text.specs.Rows.{answer-long, answer-refused, answer-known, answer-good, few-records}
use Rattle.log_text.proofs.answer.Goals as goal

pub returns-then-log-gt-LONGEST : goal.returns-then-log-gt-LONGEST
unfolding line spaced
returns-then-log-gt-LONGEST c = (put_as (answer-long c.args.log.now c.if-log-gt-LONGEST.true) c.put_word.ensures, omega arith)

pub slice_bounds-records-end : goal.slice_bounds-records-end
slice_bounds-records-end c = let few = few-records c.args.log.now c.if-log-gt-LONGEST.false c.in-Ok.ensures.log in let long = c.read_log.array_long in omega arith

pub slice_bounds-merge-end : goal.slice_bounds-merge-end
slice_bounds-merge-end c = let few = few-records c.args.log.now c.if-log-gt-LONGEST.false c.in-Ok.ensures.log in sym (length-take-le _ _ (let long = c.read_log.array_long in omega arith))

pub put_log-requires : goal.put_log-requires
put_log-requires c = (answer-known c.args.log.now c.if-log-gt-LONGEST.false c.in-Ok.ensures.log _ _ refl c.in-Ok.ensures.records, search rules)

pub returns-in-Ok : goal.returns-in-Ok
returns-in-Ok c =
    (put_as (answer-good c.args.log.now c.if-log-gt-LONGEST.false c.in-Ok.ensures.log _ _ refl c.in-Ok.ensures.records) c.put_log.ensures.0, let z = c.put_log.ensures.1 in let y = put-length c.put_log.ensures.0 in omega arith)

pub returns-in-Err : goal.returns-in-Err
returns-in-Err c = (put_as (answer-refused c.args.log.now c.if-log-gt-LONGEST.false c.in-Err.ensures.log) c.put_line.ensures.0, let z = c.put_line.ensures.1 in let y = put-length c.put_line.ensures.0 in omega arith)
