use mathlib.Core.Path.{ap, ◌∙◌}
use Prim.Native.Nat.{ℕ, ◌+◌, ◌*◌}
use Rattle.run_lists.specs.EventList.{event_at}
use Rattle.run_lists.proofs.read_record.Goals as goal

pub returns : goal.returns
returns c =
    c.read_at.ensures ∙ ap (λ (first : ℕ). event_at c.args.list.now (first + 2 * c.args.i)) c.requires.0
