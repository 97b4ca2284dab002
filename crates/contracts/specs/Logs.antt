-- Merged logs that tell wrong programs apart: all that the contract of `answer` lets be printed of them. Assumes nothing.
use Rattle.std.specs.Prelude.{◌≡◌, refl, List, [], ◌∷◌, ◌++◌, ℕ}
use Rattle.any_text.specs.Line.{line}
use Rattle.merge_text.specs.Words as R
use Rattle.log_records.specs.PairLine.{doubt}
use Rattle.log_text.specs.Words as W
use Rattle.log_text.specs.Answer.{answer}
use Rattle.contracts.specs.Opened.{logs}
use Rattle.contracts.specs.Calls.{AnswerMay}
use Rattle.contracts.specs.Only.{Puts, puts, only-answer}

-- Two nodes, and clocks at most 5 apart. Node 1 becomes master and writes; it learns nothing, 2 after the switch handled the write, and the switch shuts down, 4 after it. Log 1 is the controller's; in
-- which logs are the switch's records, and the shutdown?
abbrev pub log : ℕ → ℕ → List ℕ
log switch shutdown =
    line [] (2 ∷ 5 ∷ [])
    ++ line [] (1 ∷ 10 ∷ 1 ∷ 1 ∷ [])
    ++ line [] (1 ∷ 20 ∷ 3 ∷ 1 ∷ [])
    ++ line [] (switch ∷ 30 ∷ 8 ∷ 1 ∷ [])
    ++ line [] (1 ∷ 40 ∷ 4 ∷ 1 ∷ [])
    ++ line [] (switch ∷ 50 ∷ 10 ∷ 1 ∷ [])
    ++ line [] (1 ∷ 60 ∷ 5 ∷ 1 ∷ [])
    ++ line [] (1 ∷ 70 ∷ 6 ∷ 1 ∷ [])
    ++ line [] (switch ∷ 80 ∷ 11 ∷ 1 ∷ [])
    ++ line [] (1 ∷ 82 ∷ 3 ∷ 1 ∷ [])
    ++ line [] (shutdown ∷ 84 ∷ 12 ∷ 0 ∷ [])

-- "same"
abbrev certain : List ℕ
certain = line R.same []

-- "doubt 9 3 80 11 1 11 4 84 12 0" and "differs 1 1 1 0 0"
abbrev pub doubted : List ℕ
doubted = line doubt (9 ∷ 3 ∷ 80 ∷ 11 ∷ 1 ∷ 11 ∷ 4 ∷ 84 ∷ 12 ∷ 0 ∷ []) ++ line R.differs (1 ∷ 1 ∷ 1 ∷ 0 ∷ 0 ∷ [])

is-certain : answer (log 2 2) ≡ certain
unfolding logs
is-certain = refl

pub is-doubted : answer (log 3 4) ≡ doubted
unfolding logs
is-doubted = refl

-- The switch has one log.
pub answer-certain : (buf : List ℕ) → Puts AnswerMay (log 2 2, buf) certain buf
answer-certain buf = puts AnswerMay (log 2 2, buf) buf is-certain (only-answer (log 2 2, buf))

-- The second line has three numbers: "refused line 2".
abbrev bad : List ℕ
bad = line [] (2 ∷ 5 ∷ []) ++ line [] (1 ∷ 10 ∷ 1 ∷ [])

abbrev bad_line : List ℕ
bad_line = line W.refused_line (2 ∷ [])

is-refused : answer bad ≡ bad_line
unfolding logs
is-refused = refl

pub answer-refused : (buf : List ℕ) → Puts AnswerMay (bad, buf) bad_line buf
answer-refused buf = puts AnswerMay (bad, buf) buf is-refused (only-answer (bad, buf))
