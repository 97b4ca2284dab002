-- The refusal that a number says. Assumes nothing.
use Rattle.std.specs.Prelude.{◌≡◌, refl, ℕ}
use Rattle.std.proofs.Common.{sym, ap, ◌∙◌}
use Rattle.step_parts.specs.declared.Refusal.{Refusal}
use Rattle.step_parts.specs.declared.Refusal.TheVariants as R
use Rattle.step_parts.specs.Answers.{refusal_code}
use Rattle.run_lists.specs.Reads.{refusal_of}

-- No two refusals have one code.
pub refusal-of-code : (r : Refusal) → refusal_of (refusal_code r) ≡ r
refusal-of-code R.OutOfRange = refl
refusal-of-code R.UnknownKind = refl
refusal-of-code R.WrongNode = refl
refusal-of-code R.NotAllowed = refl
refusal-of-code R.TermLimit = refl
refusal-of-code R.HistoryFull = refl
refusal-of-code R.QueueFull = refl
refusal-of-code R.BadLength = refl
refusal-of-code R.BadMark = refl
refusal-of-code R.BadNodeCount = refl
refusal-of-code R.BadExtent = refl
refusal-of-code R.OutTooShort = refl

-- The refusal with a list's code is the one that the list has.
pub refusal-is : {r : Refusal} {n : ℕ} → refusal_code r ≡ n → r ≡ refusal_of n
refusal-is {r} e = sym (refusal-of-code r) ∙ ap refusal_of e
