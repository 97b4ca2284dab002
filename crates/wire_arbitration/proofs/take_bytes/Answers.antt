use borrow.Author.Tests.{ne_eqb}
use Rattle.wire_arbitration.specs.Raw.{see_bytes}
use Rattle.wire_arbitration.proofs.take_bytes.Goals as goal

pub returns-in-2 : goal.returns-in-2
unfolding see_bytes
returns-in-2 c = simp c.in-2.is c.take_role.ensures

pub returns-in-3 : goal.returns-in-3
unfolding see_bytes
returns-in-3 c = simp c.in-3.is c.take_election.ensures

pub returns-in-4 : goal.returns-in-4
unfolding see_bytes
returns-in-4 c = simp c.in-4.is c.take_status.ensures

pub returns-in_default : goal.returns-in_default
unfolding see_bytes
returns-in_default c =
    let other = c.in_default.in_default-own.rest in
    simp (ne_eqb _ _ other.0.0.1, ne_eqb _ _ other.0.1, ne_eqb _ _ other.1)
