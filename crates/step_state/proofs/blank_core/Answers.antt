use Rattle.step_state.specs.Hold.{pack_controllers}
use Rattle.step_state.specs.Blank.{blank-core}
use Rattle.step_state.proofs.blank_core.Goals as goal

pub returns : goal.returns
unfolding pack_controllers
returns c =
    λ count. simp (c.blank-blank.ensures, c.empty.ensures, c.blank_board.ensures) (blank-core count)
