use Rattle.rules_laws.specs.Elections.{Leads}
use Rattle.any_list.specs.Arrays.{column}
use Rattle.step_state.specs.Hold.{id_at}
use Rattle.step_state.proofs.elect.Given as goal

abbrev pub invariant-loop-i : goal.invariant-loop-i
invariant-loop-i l = Leads (column id_at l.fn.count l.fn.ids) l.i l.master l.largest.0
