use mathlib.Core.Path.{sym, ap, ◌∙◌}
use Rattle.rules.specs.Parts.{Telling}
use Rattle.rules.specs.Rules.{close_rule}
use Rattle.step_state.specs.Stores.{store_telling}
use Rattle.step_switch.proofs.Updating.{done_at, done-roomy, taken-room, taken-effect, free-room, free_effect, close-goes}
use Rattle.step_switch.proofs.handle_update.Goals as goal

pub is_collision-requires : goal.is_collision-requires
is_collision-requires c = done_at c.requires.at c.requires.goes

pub close-requires : goal.close-requires
close-requires c =
    let p = c.requires in
    let u = done_at p.at p.goes in
    record { at = p.at; goes = close-goes u (sym (taken-room u (sym c.is_collision.ensures ∙ c.if-is_collision.true)) ∙ done-roomy p.at p.goes) }

pub returns-then-is_collision : goal.returns-then-is_collision
unfolding close_rule
returns-then-is_collision c =
    c.close.ensures
    ∙ ap (λ (x : Telling). store_telling c.args.node x c.args.count c.args.streams c.args.claims)
    (sym (taken-effect (done_at c.requires.at c.requires.goes) (sym c.is_collision.ensures ∙ c.if-is_collision.true)))

pub updated-requires : goal.updated-requires
updated-requires c =
    let p = c.requires in
    let u = done_at p.at p.goes in
    record { head = u; roomy = sym (free-room u (sym c.is_collision.ensures ∙ c.if-is_collision.false)) ∙ done-roomy p.at p.goes }

pub returns : goal.returns
returns c =
    c.updated.ensures
    ∙ ap (λ (x : Telling). store_telling c.args.node x c.args.count c.args.streams c.args.claims)
    (sym (free_effect (done_at c.requires.at c.requires.goes) (sym c.is_collision.ensures ∙ c.if-is_collision.false)))
