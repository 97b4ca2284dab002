use mathlib.Core.Path.{◌∙◌}
use Rattle.step_parts.specs.Ordered.{pop-responses}
use Rattle.step_nodes.proofs.receive.Goals as goal

pub returns : goal.returns
returns c =
    let s = c.args.stream in
    λ i. record {
      opened = s.opened;
      sent = s.sent;
      requests = s.requests;
      responses = (c.pop.ensures ∙ pop-responses s.responses c.requires.responses) i;
    }
