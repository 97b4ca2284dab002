-- Every situation holds of the rules: one table, one test, and what the test says of each row. Assumes nothing.
use Rattle.std.specs.Prelude.{List, ◌++◌}
use Rattle.rules_laws.specs.Computed.{computed}
use Rattle.rules_cases.specs.Equal.{same_all}
use Rattle.rules_cases.specs.Situation.{Situation, Every, Holds, every, stands, came, holds, each, it-holds}
use Rattle.rules_cases.specs.Scope.{scope}
use Rattle.rules_cases.specs.Fresh.{from_fresh}
use Rattle.rules_cases.specs.Alone.{alone}
use Rattle.rules_cases.specs.WhoIsTold.{who_is_told}

abbrev pub table : List Situation
table = scope ++ from_fresh ++ alone ++ who_is_told

pub situations : Every Holds table
unfolding computed same_all every stands came holds
situations = each holds it-holds table tt
