-- What the verdict on two lists of bytes means: it is `same` exactly where exchanges of independent neighbours lead from the records of the one list to those of
-- the other; and then running them gives the same. `Meaning` proves both, `Names` what the places say, `Uncrossed` that lists which are the same have
-- no such places. Assumes nothing.
use Rattle.std.specs.Prelude.{◌≡◌, ◌↔◌, false, List, ℕ, ◌+◌, ◌≤◌, ◌<◌, length, take, Ok}
use Rattle.rules.specs.Codes.{out_too_short}
use Rattle.rules.specs.Step.{Event}
use Rattle.rules_exchange.specs.Independent.{independent}
use Rattle.run_lists.specs.EventList.{byte_at, node_count, record_count, record_at, records}
use Rattle.run.specs.Ran.{history_room, ran}
use Rattle.run_exchange.specs.SameRun.{Remerged, SameRun}
use Rattle.merge_verdict.specs.Verdict.{same_event}
use Rattle.merge_verdict.specs.Pairs.{only}
use Rattle.merge_compare.specs.Compare.{same, order, only_first, only_second}
use Rattle.merge_compare.specs.Compared.{compared}

-- ---- a record in two lists

-- How often a record occurs.
abbrev pub times : Event → List Event → ℕ
times e l = length (only (same_event e) l)

-- How often the record at a place occurred before. Places count from 0.
abbrev pub earlier : List ℕ → ℕ → ℕ
earlier list place = times (record_at list place) (take place (records list))

-- The record at place p of the first list stands at place p' of the second: it is the same record there, and the same occurrence of it.
pub record Stands (first second : List ℕ) (p p' : ℕ) : Type 0 where
  pub in-first : p < record_count first
  pub in-second : p' < record_count second
  pub alike : record_at first p ≡ record_at second p'
  pub occurs : earlier first p ≡ earlier second p'

-- At no other place.
abbrev pub StandsOnce : Type 0
StandsOnce = (first second : List ℕ) (p q r : ℕ) → Stands first second p q → Stands first second p r → q ≡ r

-- ---- what `same` means

-- Both lists are accepted, their node counts are the same, and there are places at which exchanges of independent neighbours make the second from the first.
pub record Merges (first second : List ℕ) : Type 0 where
  pub places : List ℕ
  pub remerged : Remerged first second places

abbrev pub SameMeans : Type 0
SameMeans = (first second : List ℕ) → (compared first second ≡ Ok same) ↔ Merges first second

-- Both lists are run, each with a buffer that holds `out`: the record at place p of the first stands in the second, and has there the answer that it had.
pub record Keeps (first second out : List ℕ) (p : ℕ) : Type 0 where
  pub place : ℕ
  pub stands : Stands first second p place
  pub answer : byte_at (ran second out).out place ≡ byte_at (ran first out).out p

-- Such exchanges make the second list from the first. One last state, one history, the same number returned, and each record has the answer that it had.
pub record Assured (first second out : List ℕ) : Type 0 where
  pub places : List ℕ
  pub remerged : Remerged first second places
  pub run : SameRun first second places out
  pub answers : (p : ℕ) → p < record_count first → Keeps first second out p

-- For every buffer that is long enough.
abbrev pub SameAssures : Type 0
SameAssures = (first second out : List ℕ) → record_count first + history_room ≤ length out → (compared first second ≡ Ok same) ↔ Assured first second out

-- In a shorter one neither is run, and it stays as it was.
abbrev pub SameShort : Type 0
SameShort = (first second out : List ℕ) → length out < record_count first + history_room → compared first second ≡ Ok same
    → (ran first out ≡ record { returned = out_too_short; out = out }) × (ran second out ≡ record { returned = out_too_short; out = out })

-- ---- what is named

-- The records at places a and b of the first list stand at a' and b' of the second, depend on one another, and come there in the other order.
pub record Crossed (first second : List ℕ) (a b a' b' : ℕ) : Type 0 where
  pub stands-a : Stands first second a a'
  pub stands_b : Stands first second b b'
  pub dependent : independent (node_count first) (record_at first a) (record_at first b) ≡ false
  pub before : a < b
  pub behind : b' < a'

abbrev pub OrderNames : Type 0
OrderNames = (first second : List ℕ) (a b a' b' : ℕ) → compared first second ≡ Ok (order a b a' b') → Crossed first second a b a' b'

-- No lists that are the same have such records.
abbrev pub SameUncrossed : Type 0
SameUncrossed = (first second : List ℕ) (a b a' b' : ℕ) → compared first second ≡ Ok same → Crossed first second a b a' b' → ⊥

-- The other list has no more of the record at a place than come before it.
pub record Lacked (list other : List ℕ) (place : ℕ) : Type 0 where
  pub inside : place < record_count list
  pub fewer : times (record_at list place) (records other) ≤ earlier list place

abbrev pub OnlyNames : Type 0
OnlyNames = (first second : List ℕ) (place : ℕ)
    → (compared first second ≡ Ok (only_first place) → Lacked first second place)
    × (compared first second ≡ Ok (only_second place) → Lacked second first place)
