-- Every array of a state has its length, as its type says. Assumes nothing.
use Rattle.std.specs.Prelude.{◌≡◌, length}
use Rattle.rules.specs.Limits.{most_nodes, most_backups, queue_length, history_length}
use Rattle.rules_laws.specs.All.{All}
use Rattle.step_parts.specs.declared.Mastership.{Mastership}
use Rattle.step_state.specs.declared.Controller.{Controller}
use Rattle.step_state.specs.declared.Stream.{Stream}
use Rattle.step_state.specs.declared.State.{State}

abbrev pub SizedMastership : Mastership → Type 0
SizedMastership m = length m.backups ≡ most_backups

pub record SizedController (r : Controller) : Type 0 where
  pub events : length r.events.items ≡ queue_length
  pub items : All SizedMastership r.events.items
  pub learned : SizedMastership r.learned

pub record SizedStream (r : Stream) : Type 0 where
  pub requests : length r.requests.items ≡ queue_length
  pub responses : length r.responses.items ≡ queue_length

pub record Sized (s : State) : Type 0 where
  pub service : SizedMastership s.core.service
  pub controllers : length s.core.controllers ≡ most_nodes
  pub controller-rows : All SizedController s.core.controllers
  pub streams : length s.core.streams ≡ most_nodes
  pub stream-rows : All SizedStream s.core.streams
  pub ids : length s.core.claims.ids ≡ most_nodes
  pub terms : length s.core.claims.terms ≡ most_nodes
  pub history : length s.history.items ≡ history_length
