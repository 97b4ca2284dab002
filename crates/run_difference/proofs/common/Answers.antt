use Rattle.std.proofs.Common.{◌≡◌, ap₂, sym, ◌∙◌, arith}
use Rattle.std.proofs.lemmas.Bool.{not-true}
use Rattle.run_difference.specs.Difference.{same_write}
use Rattle.run_difference.specs.Entries.{shared-none, shared-all}
use Rattle.run_difference.proofs.common.Goals as goal

pub loop-i-init : goal.loop-i-init
loop-i-init c = shared-none _ _ _ _

pub returns-then-ne : goal.returns-then-ne
returns-then-ne c =
    shared-all _ _ _ _ _ c.loop-i.invariant
    (λ h k. ap₂ same_write (sym c.entry_at.ensures) (sym c.entry_at-in-loop-i.ensures) ∙ not-true _ (sym c.ne.ensures ∙ c.if-ne.true))

pub returns : goal.returns
returns c =
    let all : c.loop-i.i ≡ c.min-both.result = omega arith in
    sym all ∙ shared-all _ _ _ _ _ c.loop-i.invariant (λ h k. absurd (omega arith))
