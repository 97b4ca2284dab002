-- What a run has left in its buffer says its history. Assumes nothing.
use Rattle.std.specs.Prelude.{◌≡◌, List, ◌++◌, ℕ, ◌+◌, ◌*◌, ◌-◌, ◌≤◌, length, drop}
use Rattle.std.proofs.Common.{ap, ap₂, ◌∙◌, append_assoc, arith, length-append, drop_at}
use Rattle.rules.specs.Limits.{history_length}
use Rattle.run_lists.specs.EventList.{record_count, refusal, history_bytes}
use Rattle.run_lists.specs.Good.{good}
use Rattle.run_lists.specs.Written.{history-length}
use Rattle.run.specs.Ran.{no_writes, history_room, whole_run, Ran, ran}
use Rattle.run.specs.Refusing.{ran-all}
use Rattle.run.specs.Whole.{all-answered, few-writes}
use Rattle.run_difference.specs.Difference.{history, entries}
use Rattle.run_difference.specs.Entries.{written}

-- A run of the list accepted n writes, and left this buffer, whose first `total` bytes are the answers.
pub record Written (list : List ℕ) (total : ℕ) (after : List ℕ) (n : ℕ) : Type 0 where
  pub few : n ≤ history_length
  pub writes : n ≡ length (history list)
  pub size : total + 4 * n ≤ length after
  pub says : entries (drop total after) n ≡ history list

pub written-run : (list before after : List ℕ) (returned : ℕ) → refusal list ≡ 0 → record_count list + history_room ≤ length before
    → returned ≡ (ran list before).returned → after ≡ (ran list before).out → (no_writes ≤ returned) × Written list (record_count list) after (returned - no_writes)
written-run list before after returned none room r o =
    let run = ran-all list before none room in
    let answers = (whole_run list).answer in
    let ws = history list in
    let rest = drop (length (answers ++ history_bytes ws)) before in
    let answered = all-answered list (good list none) in
    let whole : after ≡ answers ++ (history_bytes ws ++ rest) = o ∙ ap (λ (x : Ran). x.out) run ∙ append_assoc answers (history_bytes ws) rest in
    let part : drop (record_count list) after ≡ history_bytes ws ++ rest = ap (drop (record_count list)) whole ∙ drop_at answers (history_bytes ws ++ rest) (record_count list) answered in
    let few = few-writes list (good list none) in
    let given : returned ≡ no_writes + length ws = r ∙ ap (λ (x : Ran). x.returned) run in
    let writes : returned - no_writes ≡ length ws = omega arith in
    let long = ap length whole ∙ length-append answers (history_bytes ws ++ rest) in
    let size = length-append (history_bytes ws) rest in
    let bytes = history-length ws in (
      omega arith,
      record {
        few = omega arith;
        writes = writes;
        size = omega arith;
        says = ap₂ entries part writes ∙ written ws rest;
      },
    )
