use Rattle.std.proofs.Common.{◌≡◌}
use Rattle.any_list.specs.Rows.{map_first}
use Rattle.step_service.specs.Asks.{hears}
use Rattle.step_service.proofs.post.Given as goal

abbrev pub invariant-loop-controller : goal.invariant-loop-controller
invariant-loop-controller l = l.controller-items ≡ map_first (hears l.m) l.controller-index l.initial.controller-items
