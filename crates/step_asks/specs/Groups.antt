-- Which steps concern what, which exist, and after which the switch runs: by the kind, the node and the node count alone.
use Rattle.std.specs.Prelude.{Bool, true, false, cond, ◌&&◌, ◌||◌, ℕ, eqb}
use Rattle.std.proofs.Math.Option.{Option, none, some}
use Rattle.rules.specs.Codes.{step_done, unknown_kind, wrong_node}
use Rattle.rules.specs.Range.{within}
use Rattle.rules.specs.Rules.{Kind, class_of, join, leave, learns, connect, handle_write, shutdown, startup}
use Rattle.rules.specs.Step.{kind_of, number_of, called}
use Rattle.step_asks.specs.declared.Ask.{Ask}

abbrev pub has_node : Ask → Bool
has_node a = within 1 a.count a.node

abbrev pub row_kind : ℕ → Bool
row_kind k = eqb k (number_of handle_write) || within (number_of learns) (number_of connect) k

abbrev pub desk_kind : ℕ → Bool
desk_kind k = within (number_of join) (number_of leave) k

abbrev pub at_row : Ask → Bool
at_row a = row_kind a.kind && has_node a

abbrev pub at_desk : Ask → Bool
at_desk a = desk_kind a.kind && has_node a

-- The answer to a kind that does not exist, or at a node that it does not call for; 0 for any other.
abbrev pub existence_of : Option Kind → ℕ → ℕ → ℕ
existence_of none count n = unknown_kind
existence_of (some k) count n = cond (called (class_of k) count n) step_done wrong_node

abbrev pub existence : Ask → ℕ
existence a = existence_of (kind_of a.kind) a.count a.node

-- Shutdown and Startup alone change it.
abbrev pub runs_after : Ask → Bool
runs_after a = cond (eqb a.kind (number_of startup)) true (cond (eqb a.kind (number_of shutdown)) false a.running)
