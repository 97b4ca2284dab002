use Rattle.merge_letters.specs.Table.{Filled}
use Rattle.merge_letters.proofs.fill_table.Given as goal

abbrev pub invariant-loop-i : goal.invariant-loop-i
invariant-loop-i l = Filled l.nodes l.table l.i
