use mathlib.Core.Path.{sym}
use Rattle.std.proofs.Common.{rules}
use Rattle.std.proofs.lemmas.Option.{gets}
use Rattle.wire_fields.specs.Joining.{joining-starts, cut_off, one_byte}
use Rattle.wire_fields.proofs.read_number.Goals as goal

pub returns-in-Some : goal.returns-in-Some
returns-in-Some c = sym (one_byte _ _ _ (search (rules, gets)) c.if-byte-lt128.true)

pub returns-in-None : goal.returns-in-None
returns-in-None c = sym (cut_off (joining-starts _ _) (search (rules, gets)))
