use mathlib.Core.Path.{◌≡◌, refl, sym, ap, ◌∙◌}
use borrow.Author.Tests.{eqb-true}
use mathlib.Core.Logic.{◌≢◌}
use mathlib.Core.List.{List}
use Prim.Native.Nat.{ℕ, ◌-◌, ◌≤◌}
use native.Mathlib.Omega.{arith}
use lib.ListN.{length}
use Rattle.rules.specs.State as S
use Rattle.rules.specs.Election.{elected, holding}
use Rattle.rules_laws.specs.Elections.{higher-wins, lower-stays, same-stays}
use Rattle.any_list.specs.Arrays.{column}
use Rattle.any_list.specs.Columns.{length-column, column-set}
use Rattle.step_state.specs.Hold.{id_at, pack_elected}
use Rattle.step_state.specs.declared.Elected.{Elected}
use Rattle.step_streams.proofs.elected_with.Goals as goal
use Rattle.step_streams.proofs.elected_with.Goals.{Start}

-- whom the ids elect before
abbrev held : Start → S.Held
held c = elected (column id_at c.args.count c.args.ids)

made : (c : Start) → held c ≡ elected (held c).ids
unfolding elected
made c = refl

kept-master : (c : Start) → (held c).master ≡ c.args.now.master
kept-master c = ap (λ (x : Elected). x.master) (sym c.requires.1)

top : (c : Start) → c.args.now.largest.0 ≡ (held c).largest
top c = ap (λ (x : Elected). x.largest.0) c.requires.1

among : (c : Start) → c.args.node ≤ length (held c).ids
unfolding elected
among c =
    let few : c.args.count ≤ 8 = c.requires.0.few in
    let k : length c.args.ids ≡ 8 = (omega arith) in
    let n = length-column id_at c.args.count c.args.ids (omega arith) in
    let u = c.requires.0.upto in omega arith

pub returns-then-now-id : goal.returns-then-now-id
returns-then-now-id c = let e = top (goal.at.returns-then-now-id c).Start in sym (ap pack_elected (higher-wins (held (goal.at.returns-then-now-id c).Start) (made (goal.at.returns-then-now-id c).Start) c.args.node c.args.id.0 c.requires.0.from (among (goal.at.returns-then-now-id c).Start) (omega arith)))

pub returns-then-eq : goal.returns-then-eq
returns-then-eq c =
    let is = kept-master (goal.at.returns-then-eq c).Start ∙ c.if-now-node.true in
    c.requires.1 ∙ sym (ap pack_elected (same-stays (held (goal.at.returns-then-eq c).Start) (made (goal.at.returns-then-eq c).Start) c.args.node c.args.id.0 c.requires.0.from (among (goal.at.returns-then-eq c).Start) (eqb-true _ _ (sym c.eq.ensures ∙ c.if-eq.true) ∙ top (goal.at.returns-then-eq c).Start) is))

pub returns-then-id-now : goal.returns-then-id-now
returns-then-id-now c =
    let e = top (goal.at.returns-then-id-now c).Start in
    let other : (held (goal.at.returns-then-id-now c).Start).master ≢ c.args.node = λ z. c.if-now-node.false (sym (kept-master (goal.at.returns-then-id-now c).Start) ∙ z) in
    c.requires.1 ∙ sym (ap pack_elected (lower-stays (held (goal.at.returns-then-id-now c).Start) (made (goal.at.returns-then-id-now c).Start) c.args.node c.args.id.0 c.requires.0.from (among (goal.at.returns-then-id-now c).Start) (omega arith) other))

pub returns : goal.returns
unfolding holding elected
returns c =
    let a = c.args in
    c.elect.ensures ∙ ap (λ (l : List ℕ). pack_elected (elected l)) (column-set id_at a.count (a.node - 1) a.ids a.id)
