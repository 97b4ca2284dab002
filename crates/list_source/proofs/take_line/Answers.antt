use Rattle.list_source.specs.Reads.{took-none}
use Rattle.list_source.proofs.take_line.Goals as goal

pub returns-in-Blank : goal.returns-in-Blank
returns-in-Blank c = let a = c.args in rw c.in-Blank.is (took-none a.taken.nodes a.taken.steps a.steps.now)
