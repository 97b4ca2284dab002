-- A buffer over which two pieces were written: the first, the second, and what stays. Assumes nothing.
use Rattle.std.specs.Prelude.{◌≡◌, ℕ, ◌+◌, length}
use Rattle.std.proofs.Math.Path.{ap}
use Rattle.std.proofs.Common.{◌∙◌, arith, length-append}
use mathlib.Core.List.{List, ◌++◌, append_assoc}
use Rattle.std.proofs.Math.ListN.{take, drop}
use Rattle.std.proofs.Math.Seq.{take_at, drop_at}
use Rattle.run_lists.specs.EventList.{over}

module _ (a b out : List ℕ) {n m : ℕ} (size : length a ≡ n) (size' : length b ≡ m) where
  together : length (a ++ b) ≡ n + m
  together = length-append a b ∙ omega arith

  left : List ℕ
  left = drop (length (a ++ b)) out

  pub first_piece : take n (over (a ++ b) out) ≡ a
  unfolding left
  first_piece = ap (take n) (append_assoc a b left) ∙ take_at a (b ++ left) n size

  pub second-piece : take m (drop n (over (a ++ b) out)) ≡ b
  unfolding left
  second-piece = ap (λ (l : List ℕ). take m (drop n l)) (append_assoc a b left) ∙ ap (take m) (drop_at a (b ++ left) n size) ∙ take_at b left m size'

  pub what-stays : drop (n + m) (over (a ++ b) out) ≡ drop (n + m) out
  unfolding left
  what-stays = drop_at (a ++ b) left (n + m) together ∙ ap (λ (k : ℕ). drop k out) together
