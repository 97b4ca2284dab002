use mathlib.Core.Path.{◌≡◌, subst}
use Prim.Native.Nat.{ℕ}
use Rattle.merge_places.specs.Row.{Moved}
use Rattle.merge_places.specs.Taking.{moved_none, moved_more}
use native.Mathlib.Omega.{arith}
use Rattle.merge_places.proofs.take.Goals as goal

pub loop-i-init : goal.loop-i-init
loop-i-init c = (omega arith, omega arith, moved_none _ _)

pub loop-i-preserved : goal.loop-i-preserved
loop-i-preserved c = let l = c.loop-i.invariant in (omega arith, omega arith, moved_more l.2 (omega arith) (omega arith) (omega arith))

pub returns : goal.returns
returns c = let l = c.loop-i.invariant in let same : c.loop-i.i ≡ c.args.start = omega arith in subst (λ (k : ℕ). Moved k c.args.at c.args.places.now c.loop-i.places) same l.2
