use Rattle.list_source.specs.Printing.{prints-line, prints-written}
use Rattle.list_source.proofs.list_of.Goals as goal

pub returns-in-Ok : goal.returns-in-Ok
returns-in-Ok c = let a = c.args in rw (prints-written a.text.now a.out.now a.line.now c.requires.0 c.in-Ok.ensures) at c.put_list.ensures

pub returns-in-Err : goal.returns-in-Err
returns-in-Err c = let a = c.args in let p = c.put_refusal.ensures in prints-line a.text.now a.out.now a.line.now c.requires.0 c.in-Err.ensures p.0 p.1
