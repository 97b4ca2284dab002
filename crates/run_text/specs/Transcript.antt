-- What the program prints for a list.
use Rattle.std.specs.Prelude.{cond, List, ℕ, eqb}
use Rattle.run_lists.specs.EventList.{refusal}
use Rattle.run.specs.Ran.{whole_run}
use Rattle.any_text.specs.Lines.{refused_line}
use Rattle.run_lines.specs.RunText.{run_text}

-- A refused list prints one line.
unfoldable pub transcript : List ℕ → List ℕ
transcript list =
    cond (eqb (refusal list) 0)
    (run_text list (whole_run list).answer (whole_run list).state.history)
    (refused_line (refusal list))
