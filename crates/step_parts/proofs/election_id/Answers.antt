use native.Mathlib.Omega.{arith}
use Rattle.rules.specs.Ids.{election_id}
use Rattle.step_parts.proofs.election_id.Goals as goal

pub returns-then-top-back : goal.returns-then-top-back
unfolding election_id
returns-then-top-back c = omega arith

pub returns : goal.returns
unfolding election_id
returns c = omega arith
