use Rattle.run_lines.specs.Bytes.{entry_line_at}
use Rattle.any_text.specs.Lined.{Lined}
use Rattle.run_lines.proofs.put_writes.Given as goal

abbrev pub invariant-loop-i : goal.invariant-loop-i
invariant-loop-i l = Lined (entry_line_at l.part) 10 l.initial.buf l.at l.i l.buf l.next
