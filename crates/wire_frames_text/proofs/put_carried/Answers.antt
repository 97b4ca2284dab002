use Rattle.std.proofs.Common.{rules}
use native.Mathlib.Omega.{arith}
use Rattle.wire_frames_text.specs.Showing.{shows_nothing, shows-arbitration, shows-packet, shows-field}
use Rattle.wire_frames_text.proofs.put_carried.Goals as goal

pub returns-in-Nothing : goal.returns-in-Nothing
returns-in-Nothing c =
    let put = c.put_word.ensures in
    let at = put.place in
    (rw (c.in-Nothing.is, shows_nothing) put, omega arith)

pub returns-in-Arbitration : goal.returns-in-Arbitration
returns-in-Arbitration c = let put = c.put_arbitration.ensures in (rw (c.in-Arbitration.is, shows-arbitration c.in-Arbitration.fields) put.0, put.1)

pub returns-in-Other-eq2 : goal.returns-in-Other-eq2
returns-in-Other-eq2 c =
    let put = c.put_word-in-Other-eq2.ensures in
    let at = put.place in
    (rw (c.in-Other-eq2.is, shows-packet c.in-Other-eq2.field-0 (omega arith)) put, omega arith)

pub returns-in-Other : goal.returns-in-Other
returns-in-Other c =
    let put = c.put_line.ensures in
    let end = put.1 in
    (rw (c.in-Other.is, shows-field c.in-Other.number (search rules)) put.0, omega arith)
