use Rattle.wire_fields.specs.Groups.{join}
use Rattle.wire_fields.proofs.with_group.Goals as goal

pub returns : goal.returns
returns c = join _ _ _ c.requires.0 c.requires.2
