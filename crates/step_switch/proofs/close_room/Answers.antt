use mathlib.Core.Path.{sym, ap, ◌∙◌}
use Prim.Native.Nat.{◌-◌}
use lib.ListN.{set}
use borrow.Author.Tests.{eq-eqb, ne_eqb}
use Rattle.rules.specs.Election.{room_open}
use Rattle.any_list.specs.Arrays.{column}
use Rattle.step_state.specs.Hold.{open_at, responses_at}
use Rattle.step_state.specs.declared.Stream.{Stream}
use Rattle.step_switch.proofs.Closing.{ordered-others, room-quiet, room-told}
use Rattle.step_switch.proofs.close_room.Goals as goal

pub tell_room-requires : goal.tell_room-requires
tell_room-requires c = rw c.closed_stream.ensures (ordered-others c.requires)

pub returns-then-claims-node : goal.returns-then-claims-node
returns-then-claims-node c =
    c.tell_room.ensures
    ∙ ap (λ (r : Stream). let l = set c.args.streams.now (c.args.node - 1) r in room_open (column open_at c.args.count l) (column responses_at c.args.count l)) c.closed_stream.ensures
    ∙ sym (room-told c.requires (eq-eqb _ _ c.if-claims-node.true))

pub returns : goal.returns
returns c = sym (room-quiet c.requires (ne_eqb _ _ c.if-claims-node.false))
