use Rattle.std.proofs.Common.{◌≡◌, arith}
use Rattle.std.proofs.lemmas.Result.{err_from_is_err_and}
use Rattle.step_parts.specs.Refusals.{code-some}
use Rattle.list_write.specs.Write.{wrote}
use Rattle.list_write.specs.Steps.{not_written, few-steps, steps-room, trailer-room, list_written}
use Rattle.list_write.proofs.write.Goals as goal
use Rattle.list_write.proofs.write.Goals.{After-put_word}

pub returns-in_err-check_list-clause-code : goal.returns-in_err-check_list-clause-code
returns-in_err-check_list-clause-code c =
    let p = err_from_is_err_and c.from_residual.result c.from_residual.ensures.1 in
    rw (p.1, p.2) (not_written _ _ _ c.in_err-check_list.ensures (let z = code-some c.in_err-check_list.field-0.0 in omega arith)).0

pub returns-in_err-check_list-clause-out : goal.returns-in_err-check_list-clause-out
returns-in_err-check_list-clause-out c = (not_written _ _ _ c.in_err-check_list.ensures (let z = code-some c.in_err-check_list.field-0.0 in omega arith)).2

pub put_word-at-requires : goal.put_word-at-requires
put_word-at-requires c = steps-room _ _ _ c.in_ok-check_list.ensures

pub trailer_bytes-trailer-requires : goal.trailer_bytes-trailer-requires
trailer_bytes-trailer-requires c = few-steps c.args.nodes c.args.steps.now c.args.out.now c.in_ok-check_list.ensures

pub put_word-requires : goal.put_word-requires
put_word-requires c = trailer-room _ _ _ c.in_ok-check_list.ensures c.put_word-at.ensures c.trailer_bytes-trailer.ensures

-- the code, the length and the buffer
left : (c : After-put_word) → let w = wrote c.args.nodes c.args.steps.now c.args.out.now in (0 ≡ w.code) × (c.put_word.result ≡ w.length) × (c.put_word.new.buf ≡ w.out)
left c = list_written _ _ _ c.in_ok-check_list.ensures c.put_word-at.ensures c.trailer_bytes-trailer.ensures (λ i. (c.type_inv.steps i).fits) c.put_word.ensures

pub returns-clause-code : goal.returns-clause-code
returns-clause-code c = (left (goal.at.returns-clause-code c).After-put_word).0

pub returns-clause-length : goal.returns-clause-length
returns-clause-length c = (left (goal.at.returns-clause-length c).After-put_word).1

pub returns-clause-out : goal.returns-clause-out
returns-clause-out c = (left (goal.at.returns-clause-out c).After-put_word).2
