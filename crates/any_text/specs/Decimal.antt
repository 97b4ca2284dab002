-- A number as text: its decimal digits, and what digits say.
use Rattle.std.specs.Prelude.{List, [], ◌∷◌, ◌++◌, ℕ, zero, suc, ◌+◌, ◌*◌, ◌-◌, ◌/◌, ◌%◌}

-- The byte of one digit: 48 is "0".
abbrev pub digit : ℕ → ℕ
digit d = 48 + d

-- The digits of n, the most significant first, and none of 0. `most` bounds how many: no number has more digits than it says.
unfoldable pub digits : ℕ → ℕ → List ℕ
digits zero n = []
digits (suc most) zero = []
digits (suc most) (suc n) = digits most (suc n / 10) ++ (digit (suc n % 10) ∷ [])

-- The last digit is always written, so 0 is "0"; those before it begin with no zero.
unfoldable pub decimal : ℕ → List ℕ
decimal n = digits n (n / 10) ++ (digit (n % 10) ∷ [])

-- The number that digits say, behind those that say `before`.
abbrev pub said_after : ℕ → List ℕ → ℕ
said_after before [] = before
said_after before (b ∷ l) = said_after (10 * before + (b - digit 0)) l
