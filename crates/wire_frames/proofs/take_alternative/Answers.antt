use Rattle.std.proofs.lemmas.Result.{err_from_is_err_and}
use Rattle.wire_frames.proofs.Streaming.{takes-arbitration, takes-fault}
use Rattle.wire_frames.proofs.take_alternative.Goals as goal

pub returns-in_err-fields-in-1 : goal.returns-in_err-fields-in-1
returns-in_err-fields-in-1 c =
    let p = err_from_is_err_and c.from_residual.result c.from_residual.ensures.1 in
    rw (p.1, p.2, c.in-1.is) (takes-fault _ _ _ (rw c.fields.ensures at c.in_err-fields-in-1.ensures))

pub returns-in_ok-fields-in-1 : goal.returns-in_ok-fields-in-1
returns-in_ok-fields-in-1 c = rw c.in-1.is (takes-arbitration _ _ _ (rw c.fields.ensures at c.in_ok-fields-in-1.ensures))
