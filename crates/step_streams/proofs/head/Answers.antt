use Rattle.rules.specs.Rules.{no_request}
use Rattle.any_list.specs.Queue.{head-held}
use Rattle.step_parts.specs.Hold as P
use Rattle.step_parts.specs.Hold.{hold_request, pack_request, places}
use Rattle.step_streams.proofs.head.Goals as goal

pub returns : goal.returns
returns c =
    head-held P.no_request pack_request hold_request (places c.args.stream.requests) c.requires.ordered.requests P.no_request no_request c.requires.some
