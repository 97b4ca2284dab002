use Rattle.std.proofs.Common.{rules, arith}
use Rattle.merge_places.specs.Filling.{holds-all}
use Rattle.merge_places.proofs.fill_places.Goals as goal

pub returns : goal.returns
returns c = holds-all c.loop-i.places _ (search rules) (λ q h. c.loop-i.invariant q (omega arith))
