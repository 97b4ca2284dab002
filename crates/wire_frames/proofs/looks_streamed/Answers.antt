use mathlib.Core.Path.{sym, ◌∙◌}
use Rattle.wire_frames.specs.Framing.{looks-framed, looks-other, looks-said}
use Rattle.wire_frames.proofs.looks_streamed.Goals as goal

pub returns-then-is_frame : goal.returns-then-is_frame
returns-then-is_frame c = c.if-is_frame.true ∙ looks-framed _ _ c.read_frame.ensures (sym c.is_frame.ensures ∙ c.if-is_frame.true)

pub returns-then-is_arbitration : goal.returns-then-is_arbitration
returns-then-is_arbitration c =
    c.says_nothing.ensures
    ∙ looks-said _ _ c.read_frame.ensures (sym c.is_frame.ensures ∙ c.if-is_frame.false) _ c.read_message.ensures (sym c.is_arbitration.ensures ∙ c.if-is_arbitration.true) _ c.read_raw.ensures

pub returns-else-is_arbitration : goal.returns-else-is_arbitration
returns-else-is_arbitration c =
    c.if-is_arbitration.false
    ∙ looks-other _ _ c.read_frame.ensures (sym c.is_frame.ensures ∙ c.if-is_frame.false) _ c.read_message.ensures (sym c.is_arbitration.ensures ∙ c.if-is_arbitration.false)
