use mathlib.Core.Path.{◌≡◌, sym, ap, ◌∙◌}
use Prim.Native.Nat.{ℕ, ◌+◌}
use native.Mathlib.Omega.{arith}
use Rattle.std.proofs.Common.{rules}
use Rattle.wire_fields.specs.Places.{read_as}
use Rattle.wire_fields.specs.Joining.{joining-starts, cut_off, lent-fits, lent_large, lent-ends, lent_goes_on}
use Rattle.wire_fields.proofs.read_groups.Goals as goal

pub loop-i-init : goal.loop-i-init
loop-i-init c = let start : c.args.at + 0 ≡ c.args.at = omega arith in rw start (joining-starts _ _)

pub returns-then-byte-gt1 : goal.returns-then-byte-gt1
returns-then-byte-gt1 c = sym (lent_large c.requires c.loop-i.invariant (omega arith) c.if-i-eq-LAST_GROUP.true c.if-byte-gt1.true)

pub with_group-value-requires : goal.with_group-value-requires
with_group-value-requires c =
    let j = c.loop-i.invariant in
    let room = j.room in
    (j.low, omega arith, lent-fits c.requires j (λ e. search rules))

pub returns-then-byte-lt128 : goal.returns-then-byte-lt128
returns-then-byte-lt128 c =
    ap (λ (v : ℕ). read_as v (c.args.at + c.loop-i.i + 1)) c.with_group-value.ensures
    ∙ sym (lent-ends c.requires c.loop-i.invariant (omega arith) (λ e. search rules) c.if-byte-lt128.true)

pub loop-i-preserved : goal.loop-i-preserved
loop-i-preserved c = rw c.with_group-value.ensures (lent_goes_on c.requires c.loop-i.invariant (omega arith) (λ e. search rules) c.if-byte-lt128.false)

pub returns : goal.returns
returns c = sym (cut_off c.loop-i.invariant (omega arith))
