-- The open streams as one word, and how many there are.
use Rattle.std.specs.Prelude.{Bool, cond, List, [], ◌∷◌, ℕ, ◌+◌, ◌*◌}
use Rattle.rules.specs.Codes.{step_done, out_of_range}
use Rattle.rules.specs.State.{State}
use Rattle.rules.specs.Range.{in_range}

-- Bit n - 1 is set for an open stream of node n.
unfoldable pub word_of : List Bool → ℕ
word_of [] = 0
word_of (o ∷ os) = cond o 1 0 + 2 * word_of os

-- How many of them are open.
unfoldable pub open_number : List Bool → ℕ
open_number [] = 0
open_number (o ∷ os) = cond o 1 0 + open_number os

pub record Report : Type 0 where
  pub code : ℕ
  pub word : ℕ
  pub number : ℕ

-- A state that is not in range has no report.
unfoldable pub open_report : State → Report
open_report s =
    cond (in_range s)
    (record { code = step_done; word = word_of s.core.board.opens; number = open_number s.core.board.opens })
    (record { code = out_of_range; word = 0; number = 0 })
