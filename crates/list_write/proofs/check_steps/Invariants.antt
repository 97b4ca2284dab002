use Rattle.std.proofs.Common.{◌≡◌, ◌*◌, drop}
use Rattle.list_write.specs.Write.{steps_in, first_fault}
use Rattle.list_write.proofs.check_steps.Given as goal

abbrev pub invariant-loop-i : goal.invariant-loop-i
invariant-loop-i l = first_fault l.nodes (steps_in (drop (2 * l.i) l.steps)) ≡ first_fault l.nodes (steps_in l.steps)
