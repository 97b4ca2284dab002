use Prim.Native.Nat.{◌-◌}
use native.Mathlib.Omega.{arith}
use Rattle.wire_arbitration.specs.Signed.{bits_of, bits_below, less-fits, low-positive, low-negative}
use Rattle.wire_arbitration.proofs.signed.Goals as goal

pub returns-then-bits-lt2147483648 : goal.returns-then-bits-lt2147483648
returns-then-bits-lt2147483648 c = low-positive c.args.value c.if-bits-lt2147483648.true

pub overflow_sub-result : goal.overflow_sub-result
overflow_sub-result c = bits_below c.args.value

pub overflow_sub-result-2 : goal.overflow_sub-result-2
overflow_sub-result-2 c = less-fits (4294967295 - bits_of c.args.value) (omega arith)

pub returns : goal.returns
returns c = low-negative c.args.value c.if-bits-lt2147483648.false
