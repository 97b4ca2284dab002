use Rattle.rules_exchange.specs.Independent as L
use Rattle.merge_independence.proofs.independent.Goals as goal

pub returns : goal.returns
unfolding L.independent
returns c = simp (c.exists.ensures, c.exists-2.ensures, c.listed.ensures, c.listed-2.ensures)
