use Rattle.run_lines.specs.RunText.{record_line_at}
use Rattle.any_text.specs.Lined.{Lined}
use Rattle.run_lines.proofs.put_records.Given as goal

abbrev pub invariant-loop-i : goal.invariant-loop-i
invariant-loop-i l = Lined (record_line_at l.list.bytes.now l.answers) 18 l.initial.buf 0 l.i l.buf l.at
