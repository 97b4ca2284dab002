use Rattle.step_state.specs.Hold.{pack_history, represent}
use Rattle.step.specs.Settling.{blank_state, no-history}
use Rattle.step.proofs.blank_state.Goals as goal

pub returns : goal.returns
unfolding blank_state represent pack_history
returns c = λ i. record {
  count = c.args.count;
  running = c.args.running;
  core = c.blank_core.ensures c.args.count i;
  history = record { items = no-history i; len = 0 };
}
