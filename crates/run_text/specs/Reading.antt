-- What is read from the buffer that a run has filled is what the run gave. Assumes nothing.
use Rattle.std.specs.Prelude.{◌≡◌, ℕ, ◌+◌, ◌<◌, length, drop}
use Rattle.std.proofs.Common.{ap, arith, drop_at}
use Rattle.std.proofs.Math.Path.{ap₂}
use mathlib.Core.List.{List, ◌++◌, append_assoc}
use Rattle.std.proofs.Math.ListN.{get_or-append}
use Rattle.rules.specs.State.{Write}
use Rattle.run_lists.specs.EventList.{record_count, history_bytes}
use Rattle.any_text.specs.Lines.{writes_line}
use Rattle.run_lists.specs.Written.{entry_read}
use Rattle.run_lines.specs.RunText.{record_line_at, line_of, run_text}
use Rattle.run_lines.specs.Bytes.{bytes_text}
use Rattle.any_text.specs.Lined.{lines_same}

module _ (list answers : List ℕ) (ws : List Write) (rest : List ℕ) (all : length answers ≡ record_count list) where
  part : drop (record_count list) (answers ++ history_bytes ws ++ rest) ≡ history_bytes ws ++ rest
  part = rw append_assoc (drop_at answers (history_bytes ws ++ rest) (record_count list) all)

  answer-read : (i : ℕ) → i < record_count list → record_line_at list (answers ++ history_bytes ws ++ rest) i ≡ record_line_at list answers i
  answer-read i h = rw (append_assoc answers (history_bytes ws) rest, get_or-append answers (history_bytes ws ++ rest) 0 i (omega arith))

  pub bytes-text : bytes_text list (answers ++ history_bytes ws ++ rest) (length ws) ≡ run_text list answers ws
  unfolding bytes_text run_text
  bytes-text = ap₂ (λ (a b : List ℕ). a ++ writes_line (length ws) ++ b)
      (lines_same _ _ (record_count list) answer-read)
      (lines_same _ _ (length ws) (λ i h. rw part (ap line_of (entry_read ws rest i h))))
