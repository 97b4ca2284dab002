use Rattle.std.specs.Prelude.{true, length}
use Rattle.log_exchange.specs.Moves.{before-both}
use Rattle.log_exchange.proofs.run_at_hand.Goals as goal

pub run_moved-requires : goal.run_moved-requires
run_moved-requires c = let p = c.requires in let n = length c.args.merge.now.records.now in (p.0, p.1, p.2, (λ i h. rw (← before-both n n i true h) h), p.3)
