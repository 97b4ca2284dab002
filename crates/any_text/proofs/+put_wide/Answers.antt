use mathlib.Core.List.{[], ◌∷◌}
use Prim.Native.Nat.{◌%◌}
use native.Mathlib.Omega.{arith}
use Rattle.any_text.specs.Decimal.{digit}
use Rattle.any_text.specs.Digits.{decimal-last, decimal-more}
use Rattle.any_text.specs.Puts.{put_then, room-first, room-then}
use Rattle.any_text.proofs.+put_wide.Goals as goal

pub put_byte-requires : goal.put_byte-requires
put_byte-requires t c = rw (decimal-last c.args.n (omega arith)) at c.requires

pub returns-then-n-lt10 : goal.returns-then-n-lt10
returns-then-n-lt10 t c = rw (decimal-last c.args.n (omega arith)) c.put_byte.ensures

pub put_wide-last-requires : goal.put_wide-last-requires
put_wide-last-requires t c =
    let n = c.args.n in
    (omega arith, room-first (digit (n % 10) ∷ []) (rw (decimal-more n (omega arith)) at c.requires))

pub put_byte-requires-2 : goal.put_byte-requires-2
put_byte-requires-2 t c =
    room-then c.put_wide-last.ensures (rw (decimal-more c.args.n (omega arith)) at c.requires)

pub returns : goal.returns
returns t c =
    rw (decimal-more c.args.n (omega arith))
    (put_then c.put_wide-last.ensures c.put_byte-2.ensures)
