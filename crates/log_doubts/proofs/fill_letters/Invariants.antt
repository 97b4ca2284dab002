use Rattle.log_doubts.specs.Index.{Lettered}
use Rattle.log_doubts.proofs.fill_letters.Given as goal

abbrev pub invariant-loop-i : goal.invariant-loop-i
invariant-loop-i l = Lettered l.records l.letters l.i
