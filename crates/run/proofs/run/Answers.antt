use Rattle.std.proofs.Common.{sym, ap, ◌∙◌, ℕ, ◌+◌, arith}
use Rattle.step_parts.specs.Refusals.{cast-code, code-some}
use Rattle.run.specs.Ran.{Ran, no_writes}
use Rattle.run.specs.Refusing.{ran-refused, ran-short, ran-all}
use Rattle.run.proofs.run.Goals as goal

pub returns-in-Err : goal.returns-in-Err
returns-in-Err c =
    let a = c.args in
    let why = c.in-Err.ensures in
    let no = ran-refused a.list.now a.out.now (λ z. code-some c.in-Err.refusal (why ∙ z)) in
    (cast-code c.in-Err.refusal ∙ why ∙ ap (λ (x : Ran). x.returned) (sym no), ap (λ (x : Ran). x.out) (sym no))

pub returns-then-out-trailer : goal.returns-then-out-trailer
returns-then-out-trailer c =
    let a = c.args in
    let r = c.in-Ok.ensures in
    let short = ran-short a.list.now a.out.now r.none (omega arith) in
    (ap (λ (x : Ran). x.returned) (sym short), ap (λ (x : Ran). x.out) (sym short))

pub returns : goal.returns
returns c =
    let a = c.args in
    let r = c.in-Ok.ensures in
    let e = c.run_records-writes.ensures in
    let all = ran-all a.list.now a.out.now r.none (omega arith) in
    (ap (λ (n : ℕ). no_writes + n) e.0 ∙ ap (λ (x : Ran). x.returned) (sym all), e.1 ∙ ap (λ (x : Ran). x.out) (sym all))
