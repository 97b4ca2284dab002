use Rattle.std.proofs.Common.{ap, ◌∙◌, arith}
use Rattle.any_words.specs.Text.{same}
use Rattle.list_words.specs.Naming.{naming-starts, naming-stops, naming-more, naming-ends}
use Rattle.list_words.proofs.kind_named.Goals as goal

pub loop-kind-init : goal.loop-kind-init
loop-kind-init c = naming-starts _

pub returns-then-same : goal.returns-then-same
returns-then-same c = naming-stops _ c.loop-kind.invariant c.loop-kind-test.true (c.same.ensures ∙ ap (same c.args.word.now) c.name_of.ensures.name) c.if-same.true

pub loop-kind-preserved : goal.loop-kind-preserved
loop-kind-preserved c = naming-more _ c.loop-kind.invariant c.loop-kind-test.true (c.same.ensures ∙ ap (same c.args.word.now) c.name_of.ensures.name) c.if-same.false

pub returns : goal.returns
returns c = naming-ends _ c.loop-kind.invariant c.loop-kind-test.false

pub returns-else-same : goal.returns-else-same
returns-else-same c = naming-ends _ (naming-more _ c.loop-kind.invariant (omega arith) (c.same.ensures ∙ ap (same c.args.word.now) c.name_of.ensures.name) c.if-same.false) (omega arith)
