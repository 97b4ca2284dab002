use mathlib.Core.Path.{◌∙◌}
use Rattle.rules.specs.Rules.{learn_rule}
use Rattle.step_parts.specs.Ordered.{pop-events}
use Rattle.step_nodes.specs.Rules.{head-event}
use Rattle.step_nodes.proofs.learn.Goals as goal

pub returns : goal.returns
unfolding learn_rule
returns c =
    let q = c.args.controller.events in
    λ i. record {
      events = (c.pop.ensures ∙ pop-events q c.requires.events) i;
      learned = head-event q c.requires.events i;
      says = c.args.controller.says;
    }
