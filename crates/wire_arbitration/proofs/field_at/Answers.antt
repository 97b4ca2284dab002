use mathlib.Core.Path.{◌∙◌}
use native.Mathlib.Omega.{arith}
use Rattle.std.proofs.Common.{rules}
use Rattle.std.proofs.lemmas.Option.{gets}
use Rattle.wire_fields.specs.Found.{seen_bytes, seen-varint}
use Rattle.wire_arbitration.proofs.field_at.Goals as goal

pub returns-in-Some-eq8 : goal.returns-in-Some-eq8
returns-in-Some-eq8 c = c.read_varint.ensures ∙ seen-varint _ _ 8 (search (rules, gets)) 1 (omega arith) (omega arith) (omega arith)

pub returns-in-Some-eq18 : goal.returns-in-Some-eq18
returns-in-Some-eq18 c = c.read_bytes.ensures ∙ seen_bytes _ _ 18 (search (rules, gets)) 2 (omega arith) (omega arith) (omega arith)

pub returns-in-Some-eq26 : goal.returns-in-Some-eq26
returns-in-Some-eq26 c = c.read_bytes-in-Some-eq26.ensures ∙ seen_bytes _ _ 26 (search (rules, gets)) 3 (omega arith) (omega arith) (omega arith)

pub returns-in-Some-eq34 : goal.returns-in-Some-eq34
returns-in-Some-eq34 c = c.read_bytes-in-Some-eq34.ensures ∙ seen_bytes _ _ 34 (search (rules, gets)) 4 (omega arith) (omega arith) (omega arith)
