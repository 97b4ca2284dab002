-- What the functions of the service rest on, and what they do beyond the rules' own words.
use Rattle.std.specs.Prelude.{◌≡◌, ◌≢◌, true, cond, ℕ, ◌+◌, ◌≤◌, ◌<◌, ltb, length}
use Rattle.rules.specs.Limits.{most_backups, top_term}
use Rattle.rules.specs.Queues.{first, rest, has, remove}
use Rattle.rules.specs.Ids.{named}
use Rattle.rules.specs.State as S
use Rattle.step_parts.specs.Hold.{hold_mastership}
use Rattle.step_parts.specs.Queues.{with_last}
use Rattle.step_parts.specs.Ordered.{OrderedMastership}
use Rattle.step_parts.specs.declared.Mastership.{Mastership}
use Rattle.step_state.specs.declared.Controller.{Controller}

-- The service's mastership, with room for one backup more where it has a master.
pub record Joins (m : Mastership) : Type 0 where
  pub ordered : OrderedMastership m
  pub term : m.term.0 ≤ top_term
  pub spare : m.master ≢ 0 → length (hold_mastership m).backups < most_backups

-- The mastership names the node.
pub record Leaving (m : Mastership) (n : ℕ) : Type 0 where
  pub ordered : OrderedMastership m
  pub term : m.term.0 ≤ top_term
  pub name : named n (hold_mastership m) ≡ true

-- The mastership has a backup.
pub record Promotes (m : Mastership) : Type 0 where
  pub ordered : OrderedMastership m
  pub term : m.term.0 ≤ top_term
  pub some : 1 ≤ m.len

-- The mastership has the node among its backups, and it is not the master.
pub record Leaves (m : Mastership) (n : ℕ) : Type 0 where
  pub ordered : OrderedMastership m
  pub other : m.master ≢ n
  pub among : has n (hold_mastership m).backups ≡ true

-- A node that hears of a mastership.
abbrev pub hears : Mastership → Controller → Controller
hears m r = record { events = with_last r.events m; learned = r.learned; says = r.says }

-- The place of the i-th that is kept, where the one at `gone` is not.
abbrev pub skipping : ℕ → ℕ → ℕ
skipping i gone = cond (ltb i gone) i (i + 1)

abbrev pub without_backup : ℕ → S.Mastership → S.Mastership
without_backup n m = record { term = m.term; master = m.master; backups = remove n m.backups }

-- The first backup as the master of the next term.
abbrev pub handed_over : S.Mastership → S.Mastership
handed_over m = record { term = m.term + 1; master = first 0 m.backups; backups = rest m.backups }
