use mathlib.Core.Path.{refl, ◌∙◌}
use native.Mathlib.Omega.{arith}
use denote.Enum.Declared.{tag_of}
use Prim.Native.Nat.{◌+◌}
use Rattle.step_parts.specs.contracts.Refusal.{the_type}
use Rattle.any_text.specs.Puts.{put-length}
use Rattle.any_text.specs.Widths.{refused-line-width}
use Rattle.step_parts.specs.Refusals.{cast-code, code-byte}
use Rattle.list_source.specs.Printing.{prints-code, prints-list}
use Rattle.list_source.proofs.put_list.Goals as goal

pub put_refused_line-requires : goal.put_refused_line-requires
put_refused_line-requires c =
    let r = c.in-Err.refusal in
    record { enough = let n = code-byte r in let k = cast-code r in let w = refused-line-width (tag_of the_type r + 1) (omega arith) in omega arith }

pub returns-in-Ok : goal.returns-in-Ok
returns-in-Ok c =
    let a = c.args in let w = c.in-Ok.ensures in
    prints-list a.nodes a.steps.now a.out.now a.line.now c.requires.0 w.code w.length w.out refl

pub returns-in-Err : goal.returns-in-Err
returns-in-Err c =
    let a = c.args in let w = c.in-Err.ensures in let r = c.in-Err.refusal in let p = c.put_refused_line.ensures in
    prints-code a.nodes a.steps.now a.out.now a.line.now c.requires.0 (cast-code r ∙ w.code) w.out (omega arith) p
    (let n = code-byte r in let k = cast-code r in let z = p.place in let m = put-length p in let v = refused-line-width (tag_of the_type r + 1) (omega arith) in omega arith)
