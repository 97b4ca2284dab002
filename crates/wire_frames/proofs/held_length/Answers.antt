use mathlib.Core.Path.{sym, ◌∙◌}
use native.Mathlib.Omega.{arith}
use Rattle.std.proofs.Common.{rules}
use Rattle.wire_frames.specs.Framing.{held_none, held-compressed, held-said, said_length}
use Rattle.wire_frames.proofs.held_length.Goals as goal

pub returns-in-0 : goal.returns-in-0
returns-in-0 c = c.from_be_bytes.ensures ∙ said_length c.args.bytes.now _ _ _ _ ∙ sym (held-said _ (omega arith) (search rules))

pub returns-in_default : goal.returns-in_default
returns-in_default c = sym (held_none _ (omega arith))

pub returns-in_default-2 : goal.returns-in_default-2
returns-in_default-2 c = sym (held-compressed _ (omega arith) (search rules))
