use mathlib.Core.Path.{◌≡◌, refl, sym, ap, ◌∙◌}
use mathlib.Core.Bool.{Bool, true, false, not, ◌||◌}
use lib.Dec.{ltb}
use borrow.Author.Tests.{lt-ltb, le-ltb}
use Rattle.rules.specs.Limits.{history_length}
use Rattle.step_parts.specs.declared.Request.{Request}
use Rattle.step_switch_row.specs.Does.{judged}
use Rattle.step_switch_row.proofs.Writing.{has-head, head_id, write-answer}
use Rattle.step_switch_row.proofs.check_write.Goals as goal
use Rattle.step_switch_row.proofs.check_write.Goals.{else-accepts-via-then-accepts+else-writes-ge-HISTORY_LENGTH, else-accepts-via-else-accepts, After-accepts, Joined-else-accepts}

-- whether the write is accepted
judges : (c : After-accepts) (b : Bool) → c.accepts.result ≡ b → judged c.args.node (head_id c.args.stream.now) c.args.claims.now ≡ b
judges c b e =
    ap (λ (r : Request). judged c.args.node r.id.0 c.args.claims.now) (sym c.head-request.ensures) ∙ sym c.accepts.ensures ∙ e

-- there is room in the history, or none is needed
left_over : (c : Joined-else-accepts) → (not (judged c.args.node (head_id c.args.stream.now) c.args.claims.now) || ltb c.args.writes history_length) ≡ true
left_over c =
    elim c.else-accepts.branch [
      | else-accepts-via-then-accepts+else-writes-ge-HISTORY_LENGTH w ↦ simp (judges c.before _ w.if-accepts.true, lt-ltb c.args.writes 1024 w.if-writes-ge-HISTORY_LENGTH.false)
      | else-accepts-via-else-accepts w ↦ simp (judges c.before _ w.if-accepts.false)
    ]

pub head-request-requires : goal.head-request-requires
head-request-requires c = has-head c.requires

pub returns-then-writes-ge-HISTORY_LENGTH : goal.returns-then-writes-ge-HISTORY_LENGTH
returns-then-writes-ge-HISTORY_LENGTH c =
    sym (write-answer c.requires c.args.writes false _ (simp (judges (goal.at.returns-then-writes-ge-HISTORY_LENGTH c).After-accepts _ c.if-accepts.true, le-ltb c.args.writes 1024 c.if-writes-ge-HISTORY_LENGTH.true)) refl)

pub returns-then-full : goal.returns-then-full
returns-then-full c = sym (write-answer c.requires c.args.writes true false (left_over (goal.at.returns-then-full c).Joined-else-accepts) (ap not (sym c.full.ensures ∙ c.if-full.true)))

pub returns : goal.returns
returns c = sym (write-answer c.requires c.args.writes true true (left_over (goal.at.returns c).Joined-else-accepts) (ap not (sym c.full.ensures ∙ c.if-full.false)))
