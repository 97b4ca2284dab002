use mathlib.Core.Path.{sym}
use Rattle.std.proofs.lemmas.Result.{err_from_is_err_and}
use Rattle.wire_fields.specs.Numbers.{taken}
use Rattle.wire_fields.specs.Fields.{varint}
use Rattle.wire_fields.specs.Found.{found-number, no-number-no-field, varint-field}
use Rattle.wire_fields.proofs.read_varint.Goals as goal

pub returns-in_err-read : goal.returns-in_err-read
returns-in_err-read c =
    let p = err_from_is_err_and c.from_residual.result c.from_residual.ensures.1 in
    rw (p.1, p.2) (no-number-no-field _ _ _ (sym c.in_err-read.ensures) (λ value rest. taken (varint _ value) rest))

pub returns : goal.returns
returns c = varint-field _ _ _ (found-number _ _ _ (sym c.in_ok-read.ensures)) _
