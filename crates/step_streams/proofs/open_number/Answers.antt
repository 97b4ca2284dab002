use mathlib.Core.Path.{ap, ◌∙◌}
use lib.Count.{ones}
use Rattle.any_list.specs.Arrays.{column}
use Rattle.any_word.specs.Flags.{ones-open}
use Rattle.step_state.specs.Hold.{open_at}
use Rattle.step_streams.proofs.open_number.Goals as goal

pub returns : goal.returns
returns c = ap ones c.open_word.ensures ∙ ones-open (column open_at c.args.count c.args.streams)
