use Rattle.log_records.specs.Rows.{rows_of}
use Rattle.log_text.specs.Answer.{pair_text}
use Rattle.log_text.specs.Showing.{Showing}
use Rattle.log_text.proofs.Ran.put_doubts.Given as goal

abbrev pub invariant-loop-i : goal.invariant-loop-i
invariant-loop-i l = let m = l.self.merge in Showing (pair_text m.nodes m.bound (rows_of m.records.now)) l.found l.initial.buf l.buf l.at l.i
