use Rattle.std.proofs.Common.{◌∙◌, ◌+◌, arith}
use denote.Enum.Declared.{tag_of}
use Rattle.step_parts.specs.contracts.Refusal.{the_type}
use Rattle.any_text.specs.Puts.{put-length}
use Rattle.any_text.specs.Widths.{refused-line-width}
use Rattle.any_text.specs.Printing.{prints-output, prints-refusal}
use Rattle.step_parts.specs.Refusals.{cast-code, code-byte}
use Rattle.run_lists.specs.Trails.{trails-same}
use Rattle.list_text.specs.Showing.{shows-text, shows-refusal}
use Rattle.list_text.proofs.put_shown.Goals as goal

pub returns-in-Ok : goal.returns-in-Ok
returns-in-Ok c =
    let is = trails-same c.in-Ok.ensures c.in-Ok.events.good in
    let p = rw c.in-Ok.ensures at c.put_text.ensures.0 in
    prints-output (shows-text _ is.none) _ p c.put_text.ensures.1

pub put_refused_line-requires : goal.put_refused_line-requires
put_refused_line-requires c =
    let k = cast-code c.in-Err.refusal in
    let b = code-byte c.in-Err.refusal in
    record { enough = let w = refused-line-width (tag_of the_type c.in-Err.refusal + 1) (omega arith) in omega arith }

pub returns-in-Err : goal.returns-in-Err
returns-in-Err c =
    let p = c.put_refused_line.ensures in
    let n = put-length p in
    let z = p.place in
    let k = cast-code c.in-Err.refusal in
    let b = code-byte c.in-Err.refusal in
    let w = refused-line-width (tag_of the_type c.in-Err.refusal + 1) (omega arith) in
    prints-refusal (shows-refusal _ (k ∙ c.in-Err.ensures) (omega arith)) _ p (omega arith)
