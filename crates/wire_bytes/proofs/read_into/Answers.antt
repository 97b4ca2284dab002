use mathlib.Core.Path.{◌∙◌}
use native.Mathlib.Omega.{arith}
use Rattle.wire_bytes.specs.Reporting.{field-bytes-length, fields-put, reports-fields, reports-short, reports-fault, reported-both}
use Rattle.wire_bytes.proofs.read_into.Goals as goal

pub put_fields-requires : goal.put_fields-requires
put_fields-requires c = record { enough = let n = field-bytes-length c.in-Ok.field-0 in omega arith }

pub returns-in-Err : goal.returns-in-Err
returns-in-Err c = let all = reported-both (reports-fault c.args.message.now c.args.fields.now _ c.in-Err.ensures) in (c.number.ensures ∙ all.0, all.1)

pub returns-in-Ok : goal.returns-in-Ok
returns-in-Ok c = reported-both (reports-short _ _ _ c.in-Ok.ensures c.if-fields-lt-FIELD_BYTES.true)

pub returns-in-Ok-2 : goal.returns-in-Ok-2
returns-in-Ok-2 c =
    let a = c.args in
    let room = c.if-fields-lt-FIELD_BYTES.false in
    let all = reported-both (reports-fields a.message.now a.fields.now _ c.in-Ok.ensures room) in
    (all.0, fields-put c.in-Ok.field-0 a.fields.now _ _ room c.put_fields.ensures ∙ all.1)
