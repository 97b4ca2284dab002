-- Reading at the front of bytes, and the numbers of protobuf's wire format.
pub use Rattle.wire_fields.specs.declared.Fault.{Fault}
pub use Rattle.wire_fields.specs.declared.Fault.TheVariants.{CutShort, TooLarge, BadTag}
use Rattle.std.specs.Prelude.{cond, List, [], ◌∷◌, ℕ, zero, suc, ◌+◌, ◌*◌, ◌%◌, leb, ltb}

-- The number of each fault, as programs print it and hosts are told it.
abbrev pub code_of : Fault → ℕ
code_of CutShort = 13
code_of TooLarge = 14
code_of BadTag = 15

-- What stands at the front of bytes, with the bytes behind it; or why nothing can be read there.
pub data Taken (A : Type 0) : Type 0 where
  taken : A → List ℕ → Taken A
  fault : Fault → Taken A

-- One reading after the other: the second goes on behind the first and may depend on what that found.
abbrev pub after : {A B : Type 0} → Taken A → (A → List ℕ → Taken B) → Taken B
after (taken a rest) next = next a rest
after (fault why) next = fault why

-- A number in groups of seven bits, the least group first; a byte of 128 or more has another byte behind it. `more` is how many bytes may
-- follow the first. The last of them all gives no more than one bit.
unfoldable pub number_in : ℕ → List ℕ → Taken ℕ
number_in more [] = fault CutShort
number_in zero (b ∷ l) = cond (leb b 1) (taken b l) (fault TooLarge)
number_in (suc more) (b ∷ l) = cond (ltb b 128) (taken b l) (after (number_in more l) (λ high rest. taken (b % 128 + 128 * high) rest))

-- Ten bytes at most.
abbrev pub number : List ℕ → Taken ℕ
number l = number_in 9 l
