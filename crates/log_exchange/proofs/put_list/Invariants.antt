use Rattle.std.specs.Prelude.{length}
use Rattle.log_exchange.specs.Filling.{step_at, Stepped}
use Rattle.log_exchange.proofs.put_list.Given as goal

abbrev pub invariant-loop-i : goal.invariant-loop-i
invariant-loop-i l = Stepped (step_at l.records l.exchange.up l.exchange.x l.exchange.y) (length l.records) l.initial.list l.list l.at l.i
