-- The own acts of controllers (learn, send, receive: kinds 3 to 7) never depend on those of another controller. `Owned` proves it. Assumes nothing.
use Rattle.std.specs.Prelude.{◌≡◌, ◌≢◌, List, ℕ, T}
use Rattle.rules.specs.State.{State}
use Rattle.rules.specs.Queues.{has}
use Rattle.rules.specs.Range.{within, in_range}
use Rattle.rules.specs.Step.{Event}
use Rattle.rules_laws.specs.All.{All}
use Rattle.rules_exchange.specs.Independent.{node_kinds, independent}
use Rattle.merge_verdict.specs.Verdict.{Same}
use Rattle.merge_verdict.specs.Clocks.{Logged, events, SameLogs}

-- An own act of one of `count` controllers.
pub record Own (count : ℕ) (e : Event) : Type 0 where
  pub kind : T (has e.kind node_kinds)
  pub node : T (within 1 count e.node)

abbrev pub OwnActs : Type 0
OwnActs = (count : ℕ) (e f : Event) → Own count e → Own count f → e.node ≢ f.node → T (independent count e f)

-- So logs of own acts, a controller to a log, may be merged in any way at all: their clocks do not matter.
abbrev pub OwnLogs : Type 0
OwnLogs = (s : State) (es fs : List Logged) → T (in_range s) → All (λ x. Own s.count x.event × (x.event.node ≡ x.log)) es → SameLogs es fs
    → Same s (events es) (events fs)
