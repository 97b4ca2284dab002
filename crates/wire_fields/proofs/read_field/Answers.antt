use mathlib.Core.Path.{sym, ◌∙◌}
use Rattle.std.proofs.lemmas.Result.{err_from_is_err_and}
use Rattle.wire_fields.specs.Fields.{tagged, field}
use Rattle.wire_fields.specs.Places.{field_at}
use Rattle.wire_fields.specs.Found.{found-number, no-number-no-field, with_number}
use Rattle.wire_fields.proofs.read_field.Goals as goal

pub returns-in_err-tag : goal.returns-in_err-tag
unfolding field_at field
returns-in_err-tag c =
    let p = err_from_is_err_and c.from_residual.result c.from_residual.ensures.1 in
    rw (p.1, p.2) (no-number-no-field _ _ _ (sym c.in_err-tag.ensures) tagged)

pub read_tagged-requires : goal.read_tagged-requires
read_tagged-requires c = (found-number _ _ _ (sym c.in_ok-tag.ensures)).inside

pub returns : goal.returns
unfolding field_at field
returns c = c.read_tagged.ensures ∙ with_number _ _ _ (found-number _ _ _ (sym c.in_ok-tag.ensures)) tagged
