use mathlib.Core.Path.{◌∙◌}
use Rattle.wire_arbitration.proofs.Seeing.{sees-message}
use Rattle.wire_arbitration.proofs.read_raw.Goals as goal

pub returns : goal.returns
returns c = c.read_onto.ensures ∙ sees-message _
