use Rattle.std.proofs.Common.{ap, sym, ◌∙◌, Result}
use Rattle.step_parts.specs.Refusals.{cast-code, code-some}
use Rattle.merge_compare.specs.declared.Verdict.{Verdict}
use Rattle.merge_compare.specs.declared.Refused.{Refused}
use Rattle.merge_call.specs.Reply.{given}
use Rattle.merge_call.specs.Replies.{reply-short, reply-first, reply-long, reply-both}
use Rattle.merge_call.proofs.same_merge.Goals as goal

pub returns-in-Ok : goal.returns-in-Ok
returns-in-Ok c = reply-both (reply-short _ _ _ c.if-places-lt-PLACES.true c.in-Ok.ensures.none)

pub returns-in-Err : goal.returns-in-Err
returns-in-Err c =
    let why = c.in-Err.ensures in
    let is = reply-both (reply-first _ _ _ c.if-places-lt-PLACES.true (λ z. code-some c.in-Err.refusal (why ∙ z))) in
    (cast-code c.in-Err.refusal ∙ why ∙ is.0, is.1)

pub returns-in-Ok-compare : goal.returns-in-Ok-compare
returns-in-Ok-compare c =
    let found = sym c.compare.ensures ∙ c.in-Ok-compare.is in
    let is = reply-both (reply-long _ _ _ c.if-places-lt-PLACES.false ∙ ap (λ (r : Result Verdict Refused). given r c.args.places.now) found) in
    (c.verdict_number.ensures ∙ is.0, c.put_places.ensures ∙ is.1)

pub returns-in-Err-compare : goal.returns-in-Err-compare
returns-in-Err-compare c =
    let found = sym c.compare.ensures ∙ c.in-Err-compare.is in
    let is = reply-both (reply-long _ _ _ c.if-places-lt-PLACES.false ∙ ap (λ (r : Result Verdict Refused). given r c.args.places.now) found) in
    (c.refusal_number.ensures ∙ is.0, is.1)
