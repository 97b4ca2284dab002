-- The facts that a test in the code leaves, as the Boolean that a rule asks. Assumes nothing.
use Rattle.std.proofs.Common.{eq-eqb, ne_eqb, lt-ltb, le-ltb, le-leb}
use Rattle.std.proofs.lemmas.Bool.{lt-leb}

-- For `search`: each test on the way to a return.
pub ruleset tests = (eq-eqb, ne_eqb, lt-ltb, le-ltb, le-leb, lt-leb)
