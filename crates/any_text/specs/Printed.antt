-- What a program prints that has an output of its own: the output, or a line that says why there is none.
use Rattle.std.specs.Prelude.{◌≡◌, List, [], ℕ, ◌≤◌, length, Result, Ok, Err}
use Rattle.any_text.specs.Put.{Put}

pub data Output : Type 0 where
  printing : List ℕ → Output
  refusing : List ℕ → Output

abbrev pub out_of : Output → List ℕ
out_of (printing out) = out
out_of (refusing line) = []

abbrev pub refusal_of : Output → List ℕ
refusal_of (printing out) = []
refusal_of (refusing line) = line

abbrev pub IsPrinting : Output → Type 0
IsPrinting (printing out) = Unit {0}
IsPrinting (refusing line) = ⊥

abbrev pub IsRefusing : Output → Type 0
IsRefusing (printing out) = ⊥
IsRefusing (refusing line) = Unit {0}

-- The bytes stand at the front of a buffer, where they find room, and all else in it is as before.
pub record Fronts (bytes before after : List ℕ) (n : ℕ) : Type 0 where
  pub put : Put before 0 bytes after n
  pub fits : n ≤ length after

-- The output stands at the front of one buffer, or the line at the front of the other, and its length is told. The other buffer is as before.
abbrev pub Prints : Output → List ℕ → List ℕ → List ℕ → List ℕ → Result ℕ ℕ → Type 0
Prints o out line out' line' (Ok n) = IsPrinting o × Fronts (out_of o) out out' n × (line' ≡ line)
Prints o out line out' line' (Err n) = IsRefusing o × Fronts (refusal_of o) line line' n × (out' ≡ out)
