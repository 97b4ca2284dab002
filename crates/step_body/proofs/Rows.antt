-- A step at a row that is asked of a body concerns one of its nodes.
use mathlib.Core.Path.{◌≡◌, ap, subst}
use mathlib.Core.Bool.{true}
use Prim.Native.Nat.{ℕ, ◌≤◌}
use Rattle.step_state.specs.declared.Body.{Body}
use Rattle.step_moves.specs.Bodies.{Ready}
use Rattle.step_moves.specs.Stored.{few}
use Rattle.step_asks.specs.declared.Ask.{Ask}
use Rattle.step_asks.specs.Groups.{at_row}
use Rattle.step_asks.specs.Kinds as K
use Rattle.step_groups.specs.At.{At}
use Rattle.step_groups.specs.Called.{ask_of}

pub row-node : (b : Body) (ask : Ask) → Ready b → ask ≡ ask_of b ask.kind ask.node → at_row ask ≡ true → At b ask.node
row-node b ask ready asked row =
    let w = (K.row_at ask row).1 in
    record { ready = ready; low = w.lower; high = subst (λ (k : ℕ). ask.node ≤ k) (ap (λ (a : Ask). a.count) asked) w.upper; few = few b ready }
