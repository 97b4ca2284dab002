-- A trailer that was read from a list that is not refused. Assumes nothing.
use Rattle.std.specs.Prelude.{◌≡◌, refl, List, ℕ}
use Rattle.std.proofs.Math.Path.{subst}
use Rattle.run_lists.specs.EventList.{node_count, first_record, record_count, refusal}
use Rattle.run_lists.specs.Good.{Good, good}
use Rattle.run_lists.specs.declared.Trailer.{Trailer}

-- The list is not refused, and the trailer is the list's.
pub record Trails (list : List ℕ) (t : Trailer) : Type 0 where
  pub none : refusal list ≡ 0
  pub good : Good list
  pub first : t.first ≡ first_record list
  pub records : t.records ≡ record_count list
  pub nodes : t.nodes ≡ node_count list

pub trails : (list : List ℕ) → refusal list ≡ 0 → Trails list (record { first = first_record list; records = record_count list; nodes = node_count list })
trails list none = record { none = none; good = good list none; first = refl; records = refl; nodes = refl }

-- The same bytes, said otherwise.
pub trails-same : {list same : List ℕ} {t : Trailer} → list ≡ same → Trails list t → Trails same t
trails-same {t = t} e is = subst (λ (l : List ℕ). Trails l t) e is
