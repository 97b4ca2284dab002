use Rattle.std.proofs.Common.{arith}
use Rattle.any_text.specs.Line.{spaced, line}
use Rattle.merge_text.specs.Report.{verdict_line}
use Rattle.merge_text.proofs.put_verdict.Goals as goal

pub returns-in-Same : goal.returns-in-Same
unfolding verdict_line line spaced
returns-in-Same c = (rw c.in-Same.is c.put_word.ensures, omega arith)

pub returns-in-Order : goal.returns-in-Order
unfolding verdict_line
returns-in-Order c = (rw c.in-Order.is c.put_line.ensures.0, omega arith)

pub returns-in-OnlyFirst : goal.returns-in-OnlyFirst
unfolding verdict_line
returns-in-OnlyFirst c = (rw c.in-OnlyFirst.is c.put_line-in-OnlyFirst.ensures.0, omega arith)

pub returns-in-OnlySecond : goal.returns-in-OnlySecond
unfolding verdict_line
returns-in-OnlySecond c = (rw c.in-OnlySecond.is c.put_line-in-OnlySecond.ensures.0, omega arith)
