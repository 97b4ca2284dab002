use mathlib.Core.Path.{◌≡◌, sym, ap, ap₂, ◌∙◌}
use mathlib.Core.Bool.{Bool}
use Rattle.std.specs.Prelude.{Some, None}
use Prim.Native.Nat.{◌-◌}
use lib.ListN.{get_or}
use Rattle.step_parts.specs.declared.Request.{Request}
use Rattle.step_parts.specs.declared.Term.{Term}
use Rattle.step_state.specs.declared.Stream.{Stream}
use Rattle.step_streams.specs.Does.{responded}
use Rattle.step_switch_row.specs.declared.Handled.{Handled}
use Rattle.step_switch_row.specs.Does.{judged}
use Rattle.step_switch_row.proofs.Writing.{has-head, head_id, accepted, denied}
use Rattle.step_switch_row.proofs.handle_write.Goals as goal
use Rattle.step_switch_row.proofs.handle_write.Goals.{After-accepts}

-- whether the write is accepted
judges : (c : After-accepts) (b : Bool) → c.accepts.result ≡ b → judged c.args.node (head_id c.args.stream) c.args.claims ≡ b
judges c b e =
    ap (λ (r : Request). judged c.args.node r.id.0 c.args.claims) (sym c.head-request.ensures) ∙ sym c.accepts.ensures ∙ e

pub head-request-requires : goal.head-request-requires
head-request-requires c = has-head c.requires.head

pub accepts-requires : goal.accepts-requires
accepts-requires c = let at = c.requires.head.at in (at.from, at.upto)

pub returns-then-accepts : goal.returns-then-accepts
returns-then-accepts c =
    ap₂ {C = Handled} (λ (s : Stream) (t : Term). record { stream = s; last = get_or c.args.claims.terms (c.args.node - 1) (record { 0 = 0 }); accepted = Some (record { node = c.args.node; term = t }) })
    (c.respond.ensures ∙ ap₂ responded c.written.ensures c.without_head-row.ensures) (ap (λ (r : Request). r.term) c.head-request.ensures)
    ∙ accepted c.requires (judges (goal.at.returns-then-accepts c).After-accepts _ c.if-accepts.true)

pub returns : goal.returns
returns c =
    ap {B = Handled} (λ (s : Stream). record { stream = s; last = c.args.claims.last; accepted = None }) (c.respond-2.ensures ∙ ap₂ responded c.written-2.ensures c.without_head-row.ensures)
    ∙ denied c.requires (judges (goal.at.returns c).After-accepts _ c.if-accepts.false)
