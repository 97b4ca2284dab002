use Rattle.std.proofs.Common.{◌∙◌, ℕ, ◌+◌, ◌≤◌, arith, length}
use Rattle.std.proofs.lemmas.List.{length-replicate}
use denote.Enum.Declared.{tag_of}
use Rattle.step_parts.specs.contracts.Refusal.{the_type}
use Rattle.run_lists.specs.EventList.{refusal}
use Rattle.step_parts.specs.Refusals.{cast-code, code-some, code-byte}
use Rattle.run_lists.specs.Trails.{Trails, trails-same}
use Rattle.any_text.specs.Lines.{refused_line}
use Rattle.any_text.specs.Puts.{put-length}
use Rattle.any_text.specs.Widths.{refused-line-width}
use Rattle.run_text.specs.Filled.{Filled, filled, refused-text}
use Rattle.run_text.proofs.transcript.Goals as goal
use Rattle.run_text.proofs.transcript.Goals.{In-Err, After-run-returned}

known : (c : After-run-returned) → Trails c.args.list.now c.in-Ok.events.trailer
known c = trails-same c.in-Ok.ensures c.in-Ok.events.good

after_run : (c : After-run-returned) → Filled c.args.list.now c.run-returned.new.out c.run-returned.result
after_run c =
    filled _ _ _ _ (known c).none (let is = known c in let n = length-replicate {A = ℕ} 36858 0 in omega arith) c.run-returned.ensures.0 c.run-returned.ensures.1

pub overflow_sub-returned : goal.overflow_sub-returned
overflow_sub-returned c = let run = after_run (goal.at.overflow_sub-returned c).After-run-returned in omega arith

pub put_run-requires : goal.put_run-requires
put_run-requires c =
    let is = known (goal.at.put_run-requires c).After-run-returned in
    let run = after_run (goal.at.put_run-requires c).After-run-returned in
    (omega arith, omega arith, omega arith)

pub returns-in-Ok : goal.returns-in-Ok
returns-in-Ok c =
    let run = after_run (goal.at.returns-in-Ok c).After-run-returned in
    let same = put-length c.put_run.ensures.0 in
    (rw (← run.text, ← c.in-Ok.ensures) c.put_run.ensures.0, omega arith)

short : (c : In-Err) → length (refused_line (tag_of the_type c.in-Err.refusal + 1)) ≤ 12
short c = refused-line-width _ (let k = cast-code c.in-Err.refusal in let b = code-byte c.in-Err.refusal in omega arith)

pub put_refused_line-requires : goal.put_refused_line-requires
put_refused_line-requires c =
    let line = short (goal.at.put_refused_line-requires c).In-Err in
    record { enough = omega arith }

pub returns-in-Err : goal.returns-in-Err
returns-in-Err c =
    let list = c.args.list.now in
    let why = cast-code c.in-Err.refusal ∙ c.in-Err.ensures in
    let line = short (goal.at.returns-in-Err c).In-Err in
    let same = put-length c.put_refused_line.ensures in
    (rw (refused-text list (λ z. code-some c.in-Err.refusal (c.in-Err.ensures ∙ z)), ← why) c.put_refused_line.ensures, omega arith)
