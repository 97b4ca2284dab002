use native.Mathlib.Omega.{arith}
use Rattle.any_text.specs.Puts.{put_then, room-first, room-then}
use Rattle.wire_arbitration.specs.Signed.{bits_below}
use Rattle.wire_text.specs.Integers.{integer-positive, integer-negative}
use Rattle.wire_text.proofs.put_integer.Goals as goal

pub put_wide-requires : goal.put_wide-requires
put_wide-requires c = rw (integer-positive c.args.value c.if-bits-lt2147483648.true) at c.requires

pub returns-then-bits-lt2147483648 : goal.returns-then-bits-lt2147483648
returns-then-bits-lt2147483648 c = rw (integer-positive c.args.value c.if-bits-lt2147483648.true) c.put_wide.ensures

pub put_word-next-requires : goal.put_word-next-requires
put_word-next-requires c = room-first _ (rw (integer-negative c.args.value c.if-bits-lt2147483648.false) at c.requires)

pub overflow_sub-bits : goal.overflow_sub-bits
overflow_sub-bits c = let low = bits_below c.args.value in omega arith

pub put_wide-requires-2 : goal.put_wide-requires-2
put_wide-requires-2 c = room-then c.put_word-next.ensures (rw (integer-negative c.args.value c.if-bits-lt2147483648.false) at c.requires)

pub returns : goal.returns
returns c = rw (integer-negative c.args.value c.if-bits-lt2147483648.false) (put_then c.put_word-next.ensures c.put_wide-2.ensures)
