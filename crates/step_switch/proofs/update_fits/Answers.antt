use mathlib.Core.Path.{sym, ◌∙◌}
use Rattle.step_switch.proofs.Updating.{taken-room, free-room}
use Rattle.step_switch.proofs.update_fits.Goals as goal

pub returns-then-is_collision : goal.returns-then-is_collision
returns-then-is_collision c = c.close_room.ensures ∙ sym (taken-room c.requires (sym c.is_collision.ensures ∙ c.if-is_collision.true))

pub returns : goal.returns
returns c = c.update_room.ensures ∙ sym (free-room c.requires (sym c.is_collision.ensures ∙ c.if-is_collision.false))
