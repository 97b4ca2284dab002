use mathlib.Core.Path.{refl, ◌∙◌}
use Rattle.step_state.specs.Hold.{hold_board}
use Rattle.step_state.specs.Blank.{cleared-bare}
use Rattle.step_asks.specs.Kinds.{last-board}
use Rattle.step_groups.proofs.board_after.Goals as goal

pub close-requires : goal.close-requires
close-requires c = c.requires.closes c.in-9.is

pub handle_update-requires : goal.handle_update-requires
handle_update-requires c = c.requires.updates c.in-10.is

pub returns-in-9 : goal.returns-in-9
returns-in-9 c = rw c.in-9.is c.close.ensures

pub returns-in-10 : goal.returns-in-10
returns-in-10 c = rw c.in-10.is c.handle_update.ensures

pub returns-in-12 : goal.returns-in-12
unfolding hold_board
returns-in-12 c = let a = c.args in rw c.in-12.is (c.blank_board.ensures ∙ cleared-bare (hold_board a.ask.count a.streams a.claims))

pub returns-in_default : goal.returns-in_default
returns-in_default c = let m = c.in_default.in_default-own in rw (last-board _ c.requires.kind m.rest.0.0.1 m.rest.0.1 m.rest.1) refl
