use native.Mathlib.Omega.{arith}
use Rattle.rules.specs.Ids.{term_of}
use Rattle.step_parts.proofs.term_of.Goals as goal

pub returns-then-id-back : goal.returns-then-id-back
unfolding term_of
returns-then-id-back c = omega arith

pub returns : goal.returns
unfolding term_of
returns c = omega arith
