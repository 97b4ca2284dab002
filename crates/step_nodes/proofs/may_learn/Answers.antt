use Rattle.step_nodes.specs.Rules.{learn-none, learn-some}
use Rattle.step_nodes.proofs.may_learn.Goals as goal

pub returns-then-controller-eq0 : goal.returns-then-controller-eq0
returns-then-controller-eq0 c = learn-none c.args.controller.now c.requires c.if-controller-eq0.true

pub returns : goal.returns
returns c = learn-some c.args.controller.now c.requires c.if-controller-eq0.false
