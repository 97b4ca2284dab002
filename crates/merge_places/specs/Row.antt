-- The places of the second list's records in a row, of which those from some place of the row on are left; and what the searches in it test.
use Rattle.std.specs.Prelude.{◌≡◌, Bool, not, List, ℕ, suc, ◌≤◌, ◌<◌, length, get_or, Option, None, Some}
use Rattle.any_search.specs.Seek.{Sought}
use Rattle.rules.specs.Step.{Event}
use Rattle.run_lists.specs.EventList.{record_at}
use Rattle.merge_verdict.specs.Verdict.{same_event}
use Rattle.merge_letters.specs.Letters.{passes}

-- As many places as there are records, and each is that of a record.
pub record Placed (places : List ℕ) (m : ℕ) : Type 0 where
  pub size : length places ≡ m
  pub inside : (q : ℕ) → q < m → get_or places q 0 < m

-- What stood at `at` is out: what stood from `start` up to it has moved up by one, and nothing else has.
pub record Moved (start at : ℕ) (before after : List ℕ) : Type 0 where
  pub size : length after ≡ length before
  pub low : (q : ℕ) → q ≤ start → get_or after q 0 ≡ get_or before q 0
  pub up : (q : ℕ) → start ≤ q → q < at → get_or after (suc q) 0 ≡ get_or before q 0
  pub high : (q : ℕ) → at < q → get_or after q 0 ≡ get_or before q 0

-- What a search found: the first place from a on that passes the test, before `end`; or none passes.
abbrev pub Finds : (ℕ → Bool) → ℕ → ℕ → Option ℕ → Type 0
Finds test a end None = Sought test a end end
Finds test a end (Some r) = (r < end) × Sought test a end r

-- A step with this letter may not pass the record whose place stands here.
abbrev pub is_stop : List ℕ → List ℕ → ℕ → List ℕ → ℕ → Bool
is_stop letters table a places q = not (passes table a (get_or letters (get_or places q 0) 0))

-- The record whose place stands here is this one.
abbrev pub is_there : List ℕ → Event → List ℕ → ℕ → Bool
is_there second e places q = same_event e (record_at second (get_or places q 0))
