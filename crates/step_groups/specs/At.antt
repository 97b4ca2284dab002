-- What a step at a node rests on, and how its answer is carried over. Assumes nothing.
use Rattle.std.specs.Prelude.{◌≡◌, List, ℕ, ◌-◌, ◌≤◌, ◌<◌}
use Rattle.std.proofs.Common.{sym, subst, arith}
use Rattle.rules.specs.Limits.{most_nodes}
use Rattle.rules.specs.State as S
use Rattle.rules.specs.Part.{Result}
use Rattle.step_state.specs.declared.Body.{Body}
use Rattle.step_moves.specs.Bodies.{Ready, Leaves, Left}

-- A body in range, and one of its nodes.
pub record At (b : Body) (n : ℕ) : Type 0 where
  pub ready : Ready b
  pub low : 1 ≤ n
  pub high : n ≤ b.count
  pub few : b.count ≤ most_nodes

-- the row of the node
pub row_in : (b : Body) (n : ℕ) → At b n → n - 1 < b.count
row_in b n a = omega arith

pub leaves-as : (history : List S.Write) (t : Result ℕ S.State) (r m : Left) → m ≡ r → Leaves history t r → Leaves history t m
leaves-as history t r m e l = subst (λ (x : Left). Leaves history t x) (sym e) l
