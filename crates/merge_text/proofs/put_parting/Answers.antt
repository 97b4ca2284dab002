use Rattle.std.proofs.Common.{arith}
use Rattle.any_text.specs.Line.{spaced, line}
use Rattle.merge_text.specs.Report.{parting_line}
use Rattle.merge_text.proofs.put_parting.Goals as goal

pub returns-in_default : goal.returns-in_default
unfolding line spaced parting_line
returns-in_default c = (rw c.in_default.is c.put_word.ensures, omega arith)

pub returns : goal.returns
unfolding parting_line
returns c = (rw (c.in-Some.is, ← c.unwrap_or-one.ensures, ← c.unwrap_or-other.ensures) c.put_line.ensures.0, omega arith)
