use Rattle.std.specs.Prelude.{length}
use Rattle.log_read.specs.Scan.{Scanned}
use Rattle.log_read.proofs.line_of.Given as goal

abbrev pub invariant-loop-word : goal.invariant-loop-word
invariant-loop-word l = Scanned l.line l.values l.n (length l.yielded)
