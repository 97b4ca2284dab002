use mathlib.Core.Path.{sym}
use native.Mathlib.Omega.{arith}
use Rattle.std.proofs.lemmas.Result.{err_from_is_err_and}
use Rattle.wire_fields.specs.Found.{found-field}
use Rattle.wire_fields.specs.Walking.{walking-ends, walking-faults, walking_on, walking-breaks}
use Rattle.wire_arbitration.proofs.read_onto.Goals as goal

pub returns-in_err-field : goal.returns-in_err-field
returns-in_err-field c =
    let p = err_from_is_err_and c.from_residual.result c.from_residual.ensures.1 in
    rw (p.1, p.2) (sym (walking-faults _ _ _ c.loop-at.invariant (omega arith) _ (sym c.in_err-field.ensures)))

pub take-requires : goal.take-requires
take-requires c = (found-field _ _ _ (sym c.in_ok-field.ensures)).within

pub returns-in_err-u : goal.returns-in_err-u
returns-in_err-u c =
    let found = found-field _ _ _ (sym c.in_ok-field.ensures) in
    let p = err_from_is_err_and c.from_residual-in_err-u.result c.from_residual-in_err-u.ensures.1 in
    rw (p.1, p.2) (sym (walking-breaks _ _ _ c.loop-at.invariant (omega arith) _ found _ (sym c.in_err-u.ensures)))

pub loop-at-smaller : goal.loop-at-smaller
loop-at-smaller c =
    let found = found-field _ _ _ (sym c.in_ok-field.ensures) in
    omega arith

pub loop-at-preserved : goal.loop-at-preserved
loop-at-preserved c =
    let found = found-field _ _ _ (sym c.in_ok-field.ensures) in
    walking_on _ _ _ c.loop-at.invariant (omega arith) _ found _ (sym c.in_ok-u.ensures)

pub returns : goal.returns
returns c = sym (walking-ends _ _ _ c.loop-at.invariant (omega arith))
