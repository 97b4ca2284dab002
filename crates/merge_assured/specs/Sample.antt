-- Two pairs of lists in bytes, compared: the merges of the reply to the auditor (examples/merge-a.hex, merge-b.hex), and two orders of Handle write and Shutdown
-- (examples/order-a.hex, order-b.hex). Assumes nothing.
use Rattle.std.specs.Prelude.{◌≡◌, refl, List, [], ◌∷◌, ◌++◌, ℕ, Ok}
use Rattle.rules.specs.Queues.{has}
use Rattle.rules.specs.Range.{within}
use Rattle.rules_exchange.specs.Independent.{listed, exists, independent}
use Rattle.run_lists.specs.EventList.{number_at, refusal}
use Rattle.run_exchange.specs.Merged.{late, early}
use Rattle.merge_compare.specs.Compare.{same, order, compare}
use Rattle.merge_compare.specs.Compared.{compared}

pub merges-same : compared late early ≡ Ok same
unfolding compared compare refusal number_at within has listed exists independent
merges-same = refl

-- Controller 1 is master and has sent a write.
abbrev before : List ℕ
before = 1 ∷ 1 ∷ 3 ∷ 1 ∷ 8 ∷ 1 ∷ 4 ∷ 1 ∷ 10 ∷ 1 ∷ 5 ∷ 1 ∷ 6 ∷ 1 ∷ []

-- First record at 0, 9 records, 2 nodes.
abbrev trailer : List ℕ
trailer = 0 ∷ 0 ∷ 0 ∷ 0 ∷ 9 ∷ 0 ∷ 0 ∷ 0 ∷ 2 ∷ 0 ∷ 77 ∷ 65 ∷ []

-- Handle write 1 and Shutdown are the 8th and the 9th record; the other way round in the second list.
pub other-order : compared (before ++ (11 ∷ 1 ∷ 12 ∷ 0 ∷ []) ++ trailer) (before ++ (12 ∷ 0 ∷ 11 ∷ 1 ∷ []) ++ trailer) ≡ Ok (order 7 8 8 7)
unfolding compared compare refusal number_at within has listed exists independent
other-order = refl
