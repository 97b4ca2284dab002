use Rattle.std.proofs.Common.{ℕ, suc, ◌+◌, ap, ◌≡◌, ◌≤◌, ltb, Bool, List, map, take, length-take-le, cond, refl, sym, ◌∙◌, arith, rules, eqb}
use Rattle.std.specs.Prelude.{position, Some, None}
use Rattle.std.specs.List.{position_or_len}
use borrow.Author.Tests.{tests}
use Rattle.std.proofs.lemmas.Iterator.{YieldsList-from_slice}
use Rattle.std.proofs.lemmas.Iterator.Search.{position_from_yields_List}
use Rattle.std.proofs.lemmas.List.Recursion.{is_position_or_len}
use Rattle.std.proofs.lemmas.List.Sums.{prefix_len-le-length}
use Rattle.std.proofs.lemmas.Grind.{common_steps}
use Rattle.rules.specs.Queues.{before}
use Rattle.step_parts.specs.declared.ElectionId.{ElectionId}
use Rattle.step_state.specs.Hold.{id_at}
use Rattle.step_state.proofs.id_place.Goals as goal
use Rattle.step_state.proofs.id_place.Goals.{After-position}

-- whether an id is the one that is looked for
abbrev is-it : ℕ → ElectionId → Bool
is-it x h = eqb x h.0

one-more : (n : ℕ) → suc n ≡ 1 + n
one-more n = omega arith

before-is : (x : ℕ) (l : List ElectionId) → before x (map id_at l) ≡ position_or_len (is-it x) l
unfolding before
before-is x l = is_position_or_len (λ (l : List ElectionId). before x (map id_at l)) (is-it x) refl (λ h t. ap (λ (n : ℕ). cond (is-it x h) 0 n) (one-more (before x (map id_at t)))) l

found : (c : After-position) → c.position.result ≡ position (is-it c.args.id.0) (take c.args.count c.args.ids)
found c = position_from_yields_List (is-it c.args.id.0) _ _ c.position.result c.position.ensures.ran (YieldsList-from_slice _ c.iter.ensures.rest) (λ x b q k. search (rules, tests))

some-at : (b : Bool) (k i : ℕ) → cond b (Some k) None ≡ Some i → i ≡ k
some-at b k i e = grind (arith, common_steps)

none-at : (k n : ℕ) → cond (ltb k n) (Some k) None ≡ None → k ≤ n → n ≡ k
none-at k n e h = grind (arith, common_steps)

pub returns-in-Some : goal.returns-in-Some
returns-in-Some c =
    some-at _ _ _ (sym (found (goal.at.returns-in-Some c).After-position) ∙ c.in-Some.is)
    ∙ sym (before-is c.args.id.0 (take c.args.count c.args.ids))

pub returns-in-None : goal.returns-in-None
returns-in-None c =
    let used = take c.args.count c.args.ids in
    sym (length-take-le c.args.count c.args.ids (omega arith))
    ∙ none-at _ _ (sym (found (goal.at.returns-in-None c).After-position) ∙ c.in-None.is) (prefix_len-le-length _ used)
    ∙ sym (before-is c.args.id.0 used)
