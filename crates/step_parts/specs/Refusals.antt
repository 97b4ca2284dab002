-- The numbers of refusals: those that the code gives them, none is 0, each is a byte, and each has one refusal. Assumes nothing.
use Rattle.std.specs.Prelude.{◌≡◌, refl, ◌≢◌, [], ◌∷◌, ℕ, ◌+◌, ◌<◌, get_or, Result, Ok, Err, IfOk}
use Rattle.std.proofs.Common.{sym, ap, arith}
use denote.Enum.Declared.{tag_of}
use Rattle.step_parts.specs.contracts.Refusal.{the_type}
use Rattle.step_parts.specs.declared.Refusal.{Refusal}
use Rattle.step_parts.specs.declared.Refusal.TheVariants as R
use Rattle.step_parts.specs.Answers.{refusal_code, code_of}

pub cast-code : (r : Refusal) → tag_of the_type r + 1 ≡ refusal_code r
cast-code R.OutOfRange = refl
cast-code R.UnknownKind = refl
cast-code R.WrongNode = refl
cast-code R.NotAllowed = refl
cast-code R.TermLimit = refl
cast-code R.HistoryFull = refl
cast-code R.QueueFull = refl
cast-code R.BadLength = refl
cast-code R.BadMark = refl
cast-code R.BadNodeCount = refl
cast-code R.BadExtent = refl
cast-code R.OutTooShort = refl

pub code-some : (r : Refusal) → refusal_code r ≢ 0
code-some R.OutOfRange e = absurd (cc)
code-some R.UnknownKind e = absurd (cc)
code-some R.WrongNode e = absurd (cc)
code-some R.NotAllowed e = absurd (cc)
code-some R.TermLimit e = absurd (cc)
code-some R.HistoryFull e = absurd (cc)
code-some R.QueueFull e = absurd (cc)
code-some R.BadLength e = absurd (cc)
code-some R.BadMark e = absurd (cc)
code-some R.BadNodeCount e = absurd (cc)
code-some R.BadExtent e = absurd (cc)
code-some R.OutTooShort e = absurd (cc)

pub code-byte : (r : Refusal) → refusal_code r < 256
code-byte R.OutOfRange = omega arith
code-byte R.UnknownKind = omega arith
code-byte R.WrongNode = omega arith
code-byte R.NotAllowed = omega arith
code-byte R.TermLimit = omega arith
code-byte R.HistoryFull = omega arith
code-byte R.QueueFull = omega arith
code-byte R.BadLength = omega arith
code-byte R.BadMark = omega arith
code-byte R.BadNodeCount = omega arith
code-byte R.BadExtent = omega arith
code-byte R.OutTooShort = omega arith

-- The answer with this number: this value where it is done.
abbrev pub answer_in : {A : Type 0} → A → ℕ → Result A Refusal
answer_in a n =
    get_or (Ok a ∷ Err R.OutOfRange ∷ Err R.UnknownKind ∷ Err R.WrongNode ∷ Err R.NotAllowed ∷ Err R.TermLimit ∷ Err R.HistoryFull ∷ Err R.QueueFull ∷ Err R.BadLength ∷ Err R.BadMark
    ∷ Err R.BadNodeCount ∷ Err R.BadExtent ∷ Err R.OutTooShort ∷ []) n (Ok a)

pub refused-back : {A : Type 0} (a : A) (r : Refusal) → answer_in a (refusal_code r) ≡ Err r
refused-back a R.OutOfRange = refl
refused-back a R.UnknownKind = refl
refused-back a R.WrongNode = refl
refused-back a R.NotAllowed = refl
refused-back a R.TermLimit = refl
refused-back a R.HistoryFull = refl
refused-back a R.QueueFull = refl
refused-back a R.BadLength = refl
refused-back a R.BadMark = refl
refused-back a R.BadNodeCount = refl
refused-back a R.BadExtent = refl
refused-back a R.OutTooShort = refl

-- The number and the value leave one answer.
pub answer_by : {A : Type 0} (r : Result A Refusal) (a : A) (n : ℕ) → code_of r ≡ n → IfOk r (λ x. x ≡ a) → r ≡ answer_in a n
answer_by (Ok x) a n c e = rw (← c) (ap Ok e)
answer_by (Err why) a n c e = rw (← c) (sym (refused-back a why))
