use Rattle.step_state.specs.Hold.{pack_streams, pack_claims}
use Rattle.step_state.proofs.blank_board.Goals as goal

pub returns : goal.returns
unfolding pack_streams pack_claims
returns c = simp c.closed_stream.ensures
