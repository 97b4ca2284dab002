use Rattle.any_text.specs.Lined.{Lined}
use Rattle.list_text.specs.Shown.{step_line_at}
use Rattle.list_text.proofs.put_steps.Given as goal

abbrev pub invariant-loop-i : goal.invariant-loop-i
invariant-loop-i l = Lined (step_line_at l.list.bytes.now) 36 l.initial.buf l.at l.i l.buf l.next
