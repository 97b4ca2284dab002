-- What was read lies within the buffer.
use Rattle.std.specs.Prelude.{ℕ, ◌≡◌, ◌≤◌, List, length, take, Result, Ok, Err}
use Rattle.std.proofs.Common.{subst}
use Rattle.files.specs.declared.Stop.{Stop}

-- n bytes from the start on are there. The second part follows from the first.
abbrev pub IsPrefixLen : ℕ → List ℕ → Type 0
IsPrefixLen n bytes = (n ≤ length bytes) × (n ≡ length (take n bytes))

abbrev pub Within : Result ℕ Stop → List ℕ → Type 0
Within (Ok n) bytes = IsPrefixLen n bytes
Within (Err stop) bytes = Unit {0}

-- What a whole input counts lies within the buffer.
pub counted : (input : Result ℕ Stop) (n : ℕ) (bytes : List ℕ) → Within input bytes → input ≡ Ok n → IsPrefixLen n bytes
counted input n bytes within whole = subst (λ (i : Result ℕ Stop). Within i bytes) whole within
