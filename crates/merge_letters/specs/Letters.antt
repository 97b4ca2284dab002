-- Steps as letters, and the table of letters that may pass one another.
use Rattle.std.specs.Prelude.{◌≡◌, Bool, true, false, cond, ◌&&◌, List, ℕ, ◌+◌, ◌*◌, ◌/◌, ◌%◌, ◌<◌, eqb, ltb, length, get_or}
use Rattle.rules.specs.Step.{Event}
use Rattle.rules_exchange.specs.Independent.{independent}

-- Nine letters to a kind, one for each node from 0 to 8. Steps that do not exist share the letter 0.
abbrev pub letter_of : Event → ℕ
letter_of e = cond (ltb e.kind 14 && ltb e.node 9) (9 * e.kind + e.node) 0

-- The step that a letter stands for.
abbrev pub step_for : ℕ → Event
step_for a = record { kind = a / 9; node = a % 9 }

unfoldable pub may_pass : ℕ → ℕ → ℕ → Bool
may_pass count a b = independent count (step_for a) (step_for b)

-- ---- the table: 128 rows of 256, the row of a letter has 1 for each letter that it may pass

abbrev pub table_size : ℕ
table_size = 32768

abbrev pub bit : Bool → ℕ
bit true = 1
bit false = 0

pub record TableFor (count : ℕ) (t : List ℕ) : Type 0 where
  pub size : length t ≡ table_size
  pub entries : (i : ℕ) → i < table_size → get_or t i 0 ≡ bit (may_pass count (i / 256) (i % 256))

-- What the table says of two letters.
abbrev pub passes : List ℕ → ℕ → ℕ → Bool
passes t a b = eqb (get_or t (256 * a + b) 0) 1
