-- The text of a list, by its refusal; and of a list that is not refused, from the buffer that its run has filled. Assumes nothing.
use Rattle.std.specs.Prelude.{◌≡◌, ◌≢◌, List, ◌++◌, ℕ, ◌+◌, ◌-◌, ◌≤◌, length, drop}
use Rattle.std.proofs.Common.{sym, ap, ◌∙◌, arith, eq-eqb, ne_eqb}
use Rattle.rules.specs.Limits.{history_length}
use Rattle.run_lists.specs.EventList.{record_count, refusal, history_bytes}
use Rattle.run_lists.specs.Good.{good}
use Rattle.run.specs.Ran.{no_writes, history_room, whole_run, Ran, ran}
use Rattle.run.specs.Refusing.{ran-all}
use Rattle.any_text.specs.Lines.{refused_line}
use Rattle.run_lines.specs.RunText.{run_text}
use Rattle.run_text.specs.Transcript.{transcript}
use Rattle.run_lines.specs.Bytes.{bytes_text}
use Rattle.run.specs.Whole.{all-answered, few-writes}
use Rattle.run_text.specs.Reading.{bytes-text}

module _ (list : List ℕ) where
  pub refused-text : refusal list ≢ 0 → transcript list ≡ refused_line (refusal list)
  unfolding transcript
  refused-text h = simp (ne_eqb (refusal list) 0 h)

  run-text : refusal list ≡ 0 → transcript list ≡ run_text list (whole_run list).answer (whole_run list).state.history
  unfolding transcript
  run-text e = simp (eq-eqb (refusal list) 0 e)

-- What a run returned and what its buffer holds.
pub record Filled (list out : List ℕ) (returned : ℕ) : Type 0 where
  pub done : no_writes ≤ returned
  pub few : returned - no_writes ≤ history_length
  pub text : bytes_text list out (returned - no_writes) ≡ transcript list

pub filled : (list before after : List ℕ) (returned : ℕ) → refusal list ≡ 0 → record_count list + history_room ≤ length before
    → returned ≡ (ran list before).returned → after ≡ (ran list before).out → Filled list after returned
filled list before after returned none room r o =
    let run = ran-all list before none room in
    let answers = (whole_run list).answer in
    let history = (whole_run list).state.history in
    let writes : returned ≡ no_writes + length history = r ∙ ap (λ (x : Ran). x.returned) run in
    let few = few-writes list (good list none) in
    let kept : returned - no_writes ≡ length history = omega arith in
    record {
      done = omega arith;
      few = omega arith;
      text = rw (kept, o ∙ ap (λ (x : Ran). x.out) run) (bytes-text list answers history (drop (length (answers ++ history_bytes history)) before) (all-answered list (good list none)) ∙ sym (run-text list none));
    }
