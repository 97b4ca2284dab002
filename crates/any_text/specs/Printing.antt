-- An output, or a line about a refusal, put by one call. Assumes nothing.
use Rattle.std.specs.Prelude.{◌≡◌, refl, List, ℕ, ◌≤◌, length, Ok, Err}
use Rattle.any_text.specs.Put.{Put}
use Rattle.any_text.specs.Printed.{Output, printing, refusing, Prints}

module _ {o : Output} {said before after : List ℕ} {n : ℕ} where
  pub prints-refusal : o ≡ refusing said → (out : List ℕ) → Put before 0 said after n → n ≤ length after → Prints o out before out after (Err n)
  prints-refusal e out p h = rw e (tt, record { put = p; fits = h }, refl)

  pub prints-output : o ≡ printing said → (line : List ℕ) → Put before 0 said after n → n ≤ length after → Prints o before line after line (Ok n)
  prints-output e line p h = rw e (tt, record { put = p; fits = h }, refl)
