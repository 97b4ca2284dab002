use mathlib.Core.Path.{refl, sym, ◌∙◌}
use mathlib.Core.Bool.{true, false}
use Rattle.std.proofs.lemmas.Bool.{not-true, not-false}
use Rattle.step_switch.proofs.Closing.{close-answer}
use Rattle.step_switch.proofs.check_close.Goals as goal

pub returns-then-not-stream : goal.returns-then-not-stream
returns-then-not-stream c = sym (close-answer c.requires false _ (not-true _ c.if-not-stream.true) refl)

pub returns-then-not-close_room : goal.returns-then-not-close_room
returns-then-not-close_room c =
    sym (close-answer c.requires true false (not-false _ c.if-not-stream.false) (sym c.close_room.ensures ∙ c.if-not-close_room.true))

pub returns : goal.returns
returns c =
    sym (close-answer c.requires true true (not-false _ c.if-not-stream.false) (sym c.close_room.ensures ∙ c.if-not-close_room.false))
