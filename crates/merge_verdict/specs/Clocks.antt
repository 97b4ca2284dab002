-- The auditor's question: one merge at hand, whose records say which log they are from and the time there. Would another merge that the clocks allow have
-- accepted other writes? For any number of logs. `Merging` proves the verdict, `Passing` what is said of exchanges and of sorting. Assumes nothing.
use Rattle.std.specs.Prelude.{◌≡◌, ◌≢◌, Bool, not, ◌||◌, List, [], ◌∷◌, map, ℕ, ◌+◌, ◌≤◌, T, leb, eqb}
use Rattle.rules.specs.State.{State}
use Rattle.rules.specs.Range.{in_range}
use Rattle.rules.specs.Step.{Event}
use Rattle.rules_laws.specs.All.{All}
use Rattle.rules_exchange.specs.Independent.{independent}
use Rattle.merge_verdict.specs.Verdict.{Exchanges, Same}
use Rattle.merge_verdict.specs.Pairs.{only}

pub record Logged : Type 0 where
  pub log : ℕ
  pub time : ℕ
  pub event : Event

abbrev pub events : List Logged → List Event
events l = map (λ x. x.event) l

-- The records of one log, in order.
abbrev pub of_log : ℕ → List Logged → List Logged
of_log n l = only (λ x. eqb n x.log) l

-- Two merges of the same logs.
abbrev pub SameLogs : List Logged → List Logged → Type 0
SameLogs es fs = (n : ℕ) → of_log n es ≡ of_log n fs

-- ---- clocks

-- Whether a record may stand before another: whatever is known of the clocks. Where they are at most d apart, it may unless its time is more than d later.
abbrev pub clocks : ℕ → Logged → Logged → Bool
clocks d x y = leb x.time (y.time + d)

-- A merge that the clocks allow: each record may stand before each that follows it.
abbrev pub Timely : (Logged → Logged → Bool) → List Logged → Type 0
Timely may [] = Unit {0}
Timely may (x ∷ l) = All (λ y. T (may x y)) l × Timely may l

-- x stands before y, and the order is fixed: they are of one log, or independent, or y may not stand before x.
unfoldable pub fixed : ℕ → (Logged → Logged → Bool) → Logged → Logged → Bool
fixed count may x y = eqb x.log y.log || independent count x.event y.event || not (may y x)

-- No two records are in doubt.
abbrev pub NoDoubt : ℕ → (Logged → Logged → Bool) → List Logged → Type 0
NoDoubt count may [] = Unit {0}
NoDoubt count may (x ∷ l) = All (λ y. T (fixed count may x y)) l × NoDoubt count may l

-- Then every merge of the same logs that the clocks allow ends in the same state with the same history. The merge at hand need not be one that they allow.
abbrev pub ClockVerdict : Type 0
ClockVerdict = (s : State) (may : Logged → Logged → Bool) (es : List Logged) → T (in_range s) → NoDoubt s.count may es
    → (fs : List Logged) → SameLogs es fs → Timely may fs → Same s (events es) (events fs)

-- ---- other merges that the clocks allow

-- x stands right before y, and the two may change places: they are of different logs, and y may stand before x.
abbrev pub MayPass : (Logged → Logged → Bool) → Logged → Logged → Type 0
MayPass may x y = (x.log ≢ y.log) × T (may y x)

-- Such exchanges make of a merge that the clocks allow another merge of the same logs that they allow.
abbrev pub StillAllowed : Type 0
StillAllowed = (may : Logged → Logged → Bool) (es fs : List Logged) → Exchanges (MayPass may) es fs → Timely may es → SameLogs es fs × Timely may fs

-- No time is later than the next.
abbrev pub Sorted : List Logged → Type 0
Sorted [] = Unit {0}
Sorted (x ∷ []) = Unit {0}
Sorted (x ∷ y ∷ l) = (x.time ≤ y.time) × Sorted (y ∷ l)

-- Clocks that are at most d apart allow a merge that is sorted by time.
abbrev pub SortedAllowed : Type 0
SortedAllowed = (d : ℕ) (es : List Logged) → Sorted es → Timely (clocks d) es
