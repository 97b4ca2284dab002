use mathlib.Core.Path.{sym, ◌∙◌}
use Rattle.std.proofs.lemmas.Result.{err_from_is_err_and}
use Rattle.wire_fields.specs.Numbers.{taken}
use Rattle.wire_fields.specs.Fields.{bytes, part_as}
use Rattle.wire_fields.specs.Found.{found-number, no-number-no-field, with_number, part_field, no-part-no-field}
use Rattle.wire_fields.proofs.read_bytes.Goals as goal

pub returns-in_err-size : goal.returns-in_err-size
returns-in_err-size c =
    let p = err_from_is_err_and c.from_residual.result c.from_residual.ensures.1 in
    rw (p.1, p.2) (no-number-no-field _ _ _ (sym c.in_err-size.ensures) (part_as _))

pub behind-requires : goal.behind-requires
behind-requires c = (found-number _ _ _ (sym c.in_ok-size.ensures)).inside

pub returns-in_err-next : goal.returns-in_err-next
returns-in_err-next c =
    let p = err_from_is_err_and c.from_residual-in_err-next.result c.from_residual-in_err-next.ensures.1 in
    rw (p.1, p.2) (no-part-no-field _ _ _ (sym c.in_err-next.ensures) (λ held rest. taken (bytes _ held) rest)
    ∙ with_number _ _ _ (found-number _ _ _ (sym c.in_ok-size.ensures)) (part_as _))

pub returns : goal.returns
returns c =
    let size = found-number _ _ _ (sym c.in_ok-size.ensures) in
    part_field _ _ _ size.inside _ (sym c.in_ok-next.ensures) _ ∙ with_number _ _ _ size (part_as _)
