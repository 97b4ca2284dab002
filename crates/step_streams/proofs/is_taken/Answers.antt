use mathlib.Core.Path.{◌≡◌, sym, ap, ap₂, ◌∙◌}
use Prim.Native.Nat.{◌-◌, ◌≤◌}
use native.Mathlib.Omega.{arith}
use lib.Dec.{ltb}
use lib.ListN.{length, set, length-set}
use Rattle.rules.specs.Queues.{before}
use Rattle.rules.specs.Election.{taken}
use Rattle.any_list.specs.Arrays.{column}
use Rattle.any_list.specs.Columns.{length-column, column-set}
use Rattle.step_state.specs.Hold.{id_at}
use Rattle.any_list.specs.Search.{has-before}
use Rattle.step_streams.proofs.is_taken.Goals as goal

pub returns : goal.returns
unfolding taken
returns c =
    let k : length c.args.ids ≡ 8 = (omega arith) in
    let few : c.args.count ≤ 8 = c.requires.few in
    let ids = column id_at c.args.count c.args.ids in
    let n : length (set ids (c.args.node - 1) 0) ≡ c.args.count = length-set ids _ _ ∙ length-column id_at c.args.count c.args.ids (omega arith) in
    let e = column-set id_at c.args.count (c.args.node - 1) c.args.ids (record { 0 = 0 }) in
    ap₂ ltb (c.id_place.ensures ∙ ap (before c.args.id.0) e) (sym n) ∙ sym (has-before c.args.id.0 (set ids (c.args.node - 1) 0))
