-- Laws of the id rule: the inverse gives the term back, and an id asked for by a mastership in range is in range. Assumes nothing.
use Rattle.std.specs.Prelude.{◌≡◌, ◌↔◌, Bool, true, false, cond, ◌||◌, ◌∷◌, ℕ, ◌+◌, ◌≤◌, ◌<◌, length, T, eqb}
use Rattle.std.proofs.Common.{arith}
use Rattle.rules.specs.Limits.{most_nodes, top_term, top_id}
use Rattle.rules.specs.State.{Mastership}
use Rattle.rules.specs.Queues.{has, before}
use Rattle.rules.specs.Ids.{election_id, term_of, named, place_of, id_for}
use Rattle.rules_laws.specs.InRange.{Within, MastershipFits}
use Rattle.rules_laws.specs.Lists.{all-each, before-below, pigeonhole}

-- ---- the rule and its inverse

pub term-of-master : (count t : ℕ) → term_of count (election_id count t 0) ≡ t
unfolding term_of election_id
term-of-master count t = omega arith

pub masters-id : (count t id : ℕ) → 1 ≤ t → (term_of count id ≡ t) ↔ (id ≡ election_id count t 0)
unfolding term_of election_id
masters-id count t id low = (λ e. omega arith, λ e. omega arith)

-- ---- bounds

pub id-within : (count t i : ℕ) → count ≤ most_nodes → Within 1 top_term t → i < count → Within 1 top_id (election_id count t i)
unfolding election_id
id-within count t i few k below =
    let low : 1 ≤ t = k.lower in
    let high : t ≤ top_term = k.upper in
    record { lower = omega arith; upper = omega arith }

-- A mastership has fewer backups than there are nodes.
pub fewer-backups : (count : ℕ) (m : Mastership) → MastershipFits count m → length m.backups < count
fewer-backups count m k =
    pigeonhole count (m.master ∷ m.backups)
    (k.master, all-each (λ b h. h.node) m.backups k.backups)
    (all-each (λ b h. h.other) m.backups k.backups, k.distinct)

pub place-below : (count n : ℕ) (m : Mastership) → MastershipFits count m → T (named n m) → place_of n m < count
unfolding named place_of
place-below count n m k = go (eqb m.master n)
  where
    go : (b : Bool) → T (b || has n m.backups) → cond b 0 (before n m.backups + 1) < count
    go true h = let few = fewer-backups count m k in omega arith
    go false h = let few = fewer-backups count m k in let below = before-below n m.backups h in omega arith

-- The id that a node asks for is in range.
pub asked-within : (count n : ℕ) (m : Mastership) → count ≤ most_nodes → MastershipFits count m → T (named n m) → Within 1 top_id (id_for count n m)
unfolding id_for
asked-within count n m few k h = id-within count m.term (place_of n m) few k.term (place-below count n m k h)
