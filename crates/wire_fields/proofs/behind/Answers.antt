use native.Mathlib.Omega.{arith}
use Rattle.wire_fields.specs.Found.{part-ends, part-short}
use Rattle.wire_fields.proofs.behind.Goals as goal

pub returns-then-size-message : goal.returns-then-size-message
returns-then-size-message c = part-ends _ _ _ c.requires (omega arith)

pub returns : goal.returns
returns c = part-short _ _ _ c.requires (omega arith)
