-- The id rule and its inverse: the only ways from a term to an election id and back.
use Rattle.std.specs.Prelude.{Bool, cond, ◌||◌, ℕ, ◌+◌, ◌-◌, eqb}
use Rattle.rules.specs.State.{Mastership}
use Rattle.rules.specs.Queues.{has, before}

-- The id of term t among `count` nodes: place 0 is the master's, place i that of the backup at place i, counted from 1.
unfoldable pub election_id : ℕ → ℕ → ℕ → ℕ
election_id count t i = t + count - i

-- The term whose master has the id; 0 for an id that no term's master has.
unfoldable pub term_of : ℕ → ℕ → ℕ
term_of count id = id - count

-- The mastership names n, as its master or as a backup.
unfoldable pub named : ℕ → Mastership → Bool
named n m = eqb m.master n || has n m.backups

-- The place of n in a mastership that names it.
unfoldable pub place_of : ℕ → Mastership → ℕ
place_of n m = cond (eqb m.master n) 0 (before n m.backups + 1)

-- The id that n asks for by a mastership that names it.
unfoldable pub id_for : ℕ → ℕ → Mastership → ℕ
id_for count n m = election_id count m.term (place_of n m)
