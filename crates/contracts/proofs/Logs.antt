-- A merged log with a pair in doubt: all that the contract of `answer` lets be printed of it. Assumes nothing.
use Rattle.std.specs.Prelude.{List, ℕ}
use Rattle.contracts.specs.Calls.{AnswerMay}
use Rattle.contracts.specs.Only.{Puts, puts, only-answer}
use Rattle.contracts.specs.Logs.{log, doubted, is-doubted}

-- The shutdown is in another log.
pub answer-doubted : (buf : List ℕ) → Puts AnswerMay (log 3 4, buf) doubted buf
answer-doubted buf = puts AnswerMay (log 3 4, buf) buf is-doubted (only-answer (log 3 4, buf))
