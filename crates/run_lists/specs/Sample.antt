-- Lists in bytes: that of the scope, an empty one, and refusals in their order. Assumes nothing.
use Rattle.std.specs.Prelude.{◌≡◌, refl, List, [], ◌∷◌, ℕ, replicate}
use Rattle.rules.specs.Codes.{bad_length, bad_mark, bad_node_count, bad_extent}
use Rattle.rules.specs.Range.{within}
use Rattle.rules.specs.Step.{Event}
use Rattle.run_lists.specs.EventList.{number_at, node_count, refusal, records, history_bytes}

abbrev event : ℕ → ℕ → Event
event k n = record { kind = k; node = n }

abbrev listed : List ℕ
listed = 1 ∷ 1 ∷ 3 ∷ 1 ∷ 8 ∷ 1 ∷ 4 ∷ 1 ∷ 10 ∷ 1 ∷ 5 ∷ 1 ∷ 6 ∷ 1 ∷ 11 ∷ 1 ∷ 0 ∷ 0 ∷ 0 ∷ 0 ∷ 8 ∷ 0 ∷ 0 ∷ 0 ∷ 2 ∷ 0 ∷ 77 ∷ 65 ∷ []

pub listed-good : refusal listed ≡ 0
unfolding refusal number_at within
listed-good = refl

pub listed-nodes : node_count listed ≡ 2
listed-nodes = refl

pub listed-records : records listed ≡ event 1 1 ∷ event 3 1 ∷ event 8 1 ∷ event 4 1 ∷ event 10 1 ∷ event 5 1 ∷ event 6 1 ∷ event 11 1 ∷ []
unfolding number_at
listed-records = refl

-- Twelve bytes with no record are accepted.
pub empty-good : refusal (0 ∷ 0 ∷ 0 ∷ 0 ∷ 0 ∷ 0 ∷ 0 ∷ 0 ∷ 1 ∷ 0 ∷ 77 ∷ 65 ∷ []) ≡ 0
unfolding refusal number_at within
empty-good = refl

-- 2^31 records fit only modulo 2^32.
pub wrapped_sum : refusal (0 ∷ 0 ∷ 0 ∷ 0 ∷ 0 ∷ 0 ∷ 0 ∷ 128 ∷ 1 ∷ 0 ∷ 77 ∷ 65 ∷ []) ≡ bad_extent
unfolding refusal number_at within
wrapped_sum = refl

-- Of several reasons the lowest number is given.
pub lowest-first : refusal (0 ∷ 0 ∷ 0 ∷ 0 ∷ 0 ∷ 0 ∷ 0 ∷ 1 ∷ 9 ∷ 1 ∷ 77 ∷ 65 ∷ []) ≡ bad_mark
unfolding refusal number_at within
lowest-first = refl

pub nine-nodes : refusal (0 ∷ 0 ∷ 0 ∷ 0 ∷ 0 ∷ 0 ∷ 0 ∷ 1 ∷ 9 ∷ 0 ∷ 77 ∷ 65 ∷ []) ≡ bad_node_count
unfolding refusal number_at within
nine-nodes = refl

pub too_short : refusal (replicate 11 0) ≡ bad_length
unfolding refusal number_at within
too_short = refl

-- Term 258 is 01 02, the least byte first.
pub entry : history_bytes (record { node = 3; term = 258 } ∷ []) ≡ 3 ∷ 0 ∷ 2 ∷ 1 ∷ []
unfolding history_bytes
entry = refl
