use Rattle.list_words.specs.Naming.{Naming}
use Rattle.list_words.proofs.kind_named.Given as goal

abbrev pub invariant-loop-kind : goal.invariant-loop-kind
invariant-loop-kind l = Naming l.word l.kind
