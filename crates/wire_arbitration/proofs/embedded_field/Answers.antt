use mathlib.Core.Path.{◌∙◌}
use native.Mathlib.Omega.{arith}
use Rattle.std.proofs.Common.{rules}
use Rattle.std.proofs.lemmas.Option.{gets}
use Rattle.wire_fields.specs.Found.{seen-varint}
use Rattle.wire_arbitration.proofs.embedded_field.Goals as goal

pub returns-in-Some-eq8 : goal.returns-in-Some-eq8
returns-in-Some-eq8 c = c.read_varint.ensures ∙ seen-varint _ _ 8 (search (rules, gets)) 1 (omega arith) (omega arith) (omega arith)

pub returns-in-Some-eq16 : goal.returns-in-Some-eq16
returns-in-Some-eq16 c = c.read_varint-in-Some-eq16.ensures ∙ seen-varint _ _ 16 (search (rules, gets)) 2 (omega arith) (omega arith) (omega arith)
