use Rattle.std.proofs.lemmas.Result.{err_from_is_err_and}
use Rattle.wire_arbitration.specs.Raw.{with_status}
use Rattle.wire_arbitration.specs.Seeing.{sees-one, loses-one}
use Rattle.wire_arbitration.proofs.take_status.Goals as goal

pub returns-in_err-read : goal.returns-in_err-read
returns-in_err-read c =
    let p = err_from_is_err_and c.from_residual.result c.from_residual.ensures.1 in
    rw (p.1, p.2) (loses-one _ _ (with_status c.args.u) _ c.in_err-read.ensures)

pub returns : goal.returns
returns c = sees-one _ _ (with_status c.args.u) _ c.in_ok-read.ensures
