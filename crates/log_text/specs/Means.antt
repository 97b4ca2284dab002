-- What a line of the answer says of the merge at hand. `Meanings` proves it. Assumes nothing.
use Rattle.std.specs.Prelude.{◌≡◌, ◌≢◌, List, [], ℕ, length, get_or, take}
use Rattle.rules.specs.State.{Write}
use Rattle.rules.specs.Step.{step, fresh}
use Rattle.rules.specs.Run.{run}
use Rattle.merge_verdict.specs.Clocks.{Logged, events, SameLogs, clocks, Timely}
use Rattle.merge_text.specs.Words as R
use Rattle.any_words.specs.Text.{lines}
use Rattle.log_read.specs.Log.{Reading, read_text}
use Rattle.log_records.specs.Rows.{merged}
use Rattle.log_records.specs.PairLine.{against}
use Rattle.log_text.specs.Answer.{answer}

-- A line of the text begins with the word.
pub record Says (word text : List ℕ) : Type 0 where
  pub place : ℕ
  pub begins : take (length word) (get_or (lines text) place []) ≡ word

-- The writes that a merge accepts.
abbrev pub writes_of : ℕ → List Logged → List Write
writes_of count es = (run step (fresh count) (events es)).state.history

-- There is another merge of the same logs that the clocks allow, and it accepts other writes than the one at hand.
pub record OtherWrites (log : Reading) : Type 0 where
  pub other : List Logged
  pub same-logs : SameLogs (merged log.rows) other
  pub allowed : Timely (clocks log.bound) other
  pub differs : writes_of log.nodes (merged log.rows) ≢ writes_of log.nodes other

-- A line "differs" proves that, where the clocks allow the merge at hand.
abbrev pub DiffersMeans : Type 0
DiffersMeans = (text : List ℕ) → Says R.differs (answer text) → Timely (clocks (read_text text).bound) (merged (read_text text).rows) → OtherWrites (read_text text)

-- A line "against" says that they do not.
abbrev pub AgainstMeans : Type 0
AgainstMeans = (text : List ℕ) → Says against (answer text) → Timely (clocks (read_text text).bound) (merged (read_text text).rows) → ⊥
