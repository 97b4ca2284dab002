use mathlib.Core.Path.{sym}
use native.Mathlib.Omega.{arith}
use Rattle.std.proofs.lemmas.Result.{err_from_is_err_and}
use Rattle.wire_fields.specs.Found.{found-field}
use Rattle.wire_frames.specs.Streaming.{carrying-starts, carrying-ends, carrying-faults, carrying-on, carrying-breaks}
use Rattle.wire_frames.proofs.read_message.Goals as goal

pub loop-at-init : goal.loop-at-init
loop-at-init c = carrying-starts _

pub returns-in_err-field : goal.returns-in_err-field
returns-in_err-field c =
    let p = err_from_is_err_and c.from_residual.result c.from_residual.ensures.1 in
    rw (p.1, p.2) (carrying-faults _ c.loop-at.invariant (omega arith) _ (sym c.in_err-field.ensures))

pub take-requires : goal.take-requires
take-requires c = (found-field _ _ _ (sym c.in_ok-field.ensures)).within

pub returns-in_err-known : goal.returns-in_err-known
returns-in_err-known c =
    let found = found-field _ _ _ (sym c.in_ok-field.ensures) in
    let p = err_from_is_err_and c.from_residual-in_err-known.result c.from_residual-in_err-known.ensures.1 in
    rw (p.1, p.2) (carrying-breaks _ c.loop-at.invariant (omega arith) _ found _ c.in_err-known.ensures)

pub loop-at-smaller : goal.loop-at-smaller
loop-at-smaller c =
    let found = found-field _ _ _ (sym c.in_ok-field.ensures) in
    omega arith

pub loop-at-preserved : goal.loop-at-preserved
loop-at-preserved c =
    let found = found-field _ _ _ (sym c.in_ok-field.ensures) in
    carrying-on _ c.loop-at.invariant (omega arith) _ found _ c.in_ok-known.ensures

pub returns : goal.returns
returns c = carrying-ends _ c.loop-at.invariant (omega arith)
