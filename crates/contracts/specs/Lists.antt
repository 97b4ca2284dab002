-- One list that tells wrong programs apart: all that the contracts of `run` and `transcript` let be returned, left and printed. Two that are refused are in proofs/Lists. Assumes nothing.
use Rattle.std.specs.Prelude.{◌≡◌, refl, List, [], ◌∷◌, ◌++◌, ℕ, replicate}
use Rattle.any_text.specs.Lines.{record_line, writes_line, write_line}
use Rattle.run_text.specs.Transcript.{transcript}
use Rattle.run.specs.Ran.{ran}
use Rattle.contracts.specs.Contract.{Gives, Only, only}
use Rattle.contracts.specs.Opened.{runs, prints}
use Rattle.contracts.specs.Calls.{RunMay, TranscriptMay}
use Rattle.contracts.specs.Only.{Puts, puts, only-transcript}

-- A note byte; Join 1, Learn 2, Learn 1, Connect 1 twice, Send update 1, Handle update 1, Receive update 1, Send write 1, Handle write 1, Shutdown with node 1; first record at 1,
-- 11 records, 2 nodes.
abbrev pub worked : List ℕ
worked = 7 ∷ 1 ∷ 1 ∷ 3 ∷ 2 ∷ 3 ∷ 1 ∷ 8 ∷ 1 ∷ 8 ∷ 1 ∷ 4 ∷ 1 ∷ 10 ∷ 1 ∷ 5 ∷ 1 ∷ 6 ∷ 1 ∷ 11 ∷ 1 ∷ 12 ∷ 1
    ∷ 1 ∷ 0 ∷ 0 ∷ 0 ∷ 11 ∷ 0 ∷ 0 ∷ 0 ∷ 2 ∷ 0 ∷ 77 ∷ 65 ∷ []

-- Connect is refused the second time with 4, Shutdown with 3. The one write is by node 1 in term 1, and its entry stands right behind the answers.
pub run-worked : Gives RunMay (worked, replicate 4107 9) 257 ((0 ∷ 0 ∷ 0 ∷ 0 ∷ 4 ∷ 0 ∷ 0 ∷ 0 ∷ 0 ∷ 0 ∷ 3 ∷ []) ++ (1 ∷ 0 ∷ 1 ∷ 0 ∷ []) ++ replicate 4092 9)
unfolding runs
run-worked =
    let only-run : Only RunMay (λ g. (ran g.0 g.1).returned) (λ g. (ran g.0 g.1).out) = only _ _ _ _ _ (λ κs a r e m. m) in
    only-run (worked, replicate 4107 9)

-- Twelve bytes, with 9 nodes.
abbrev pub nine_nodes : List ℕ
nine_nodes = 0 ∷ 0 ∷ 0 ∷ 0 ∷ 0 ∷ 0 ∷ 0 ∷ 0 ∷ 9 ∷ 0 ∷ 77 ∷ 65 ∷ []

-- What is printed for the first list, line by line. (`any_text/specs/Sample` has such lines in bytes.)
abbrev printed : List ℕ
printed =
    record_line 1 1 1 0 ++ record_line 2 3 2 0 ++ record_line 3 3 1 0 ++ record_line 4 8 1 0 ++ record_line 5 8 1 4 ++ record_line 6 4 1 0
    ++ record_line 7 10 1 0 ++ record_line 8 5 1 0 ++ record_line 9 6 1 0 ++ record_line 10 11 1 0 ++ record_line 11 12 1 3
    ++ writes_line 1 ++ write_line 1 1

worked-printed : transcript worked ≡ printed
unfolding prints
worked-printed = refl

pub print-worked : (buf : List ℕ) → Puts TranscriptMay (worked, buf) printed buf
print-worked buf = puts TranscriptMay (worked, buf) buf worked-printed (only-transcript (worked, buf))
