use Rattle.std.proofs.Common.{sym, ◌∙◌, get_or}
use borrow.Author.Tests.{eqb-true, eqb-false}
use Rattle.step_parts.specs.Hold.{no_response}
use Rattle.step_nodes.specs.Rules.{flag_small, flag_ok, flag-other-id, flag-other-term, flag-other-master}
use Rattle.step_nodes.proofs.Cases.{same-ok}
use Rattle.step_nodes.proofs.confirmed.Goals as goal
use Rattle.step_nodes.proofs.confirmed.Goals.{else-learned-node-via-then-learned-node+then-eq+else-eq-2, else-learned-node-via-then-learned-node+else-eq, else-learned-node-via-else-learned-node}

pub term_of-requires : goal.term_of-requires
term_of-requires c = flag_small c.args.count c.args.node c.args.controller c.args.stream c.requires

pub returns-then-eq-2 : goal.returns-then-eq-2
returns-then-eq-2 c =
    let a = c.args in
    c.eq-then-eq-2.ensures
    ∙ flag_ok a.count a.node a.controller a.stream c.requires c.if-learned-node.true (eqb-true _ _ (sym c.eq.ensures ∙ c.if-eq.true)) c.term_of.result.0 c.term_of.ensures (eqb-true _ _ (sym c.eq-then-eq.ensures ∙ c.if-eq-2.true)) _ (same-ok (get_or a.stream.responses.items 0 no_response).status)

pub returns : goal.returns
returns c =
    let a = c.args in
    elim c.else-learned-node.branch [
      | else-learned-node-via-then-learned-node+then-eq+else-eq-2 w ↦ flag-other-id a.count a.node a.controller a.stream c.requires w.term_of.result.0 w.term_of.ensures (eqb-false _ _ (sym w.eq-then-eq.ensures ∙ w.if-eq-2.false))
      | else-learned-node-via-then-learned-node+else-eq w ↦ flag-other-term a.count a.node a.controller a.stream c.requires (eqb-false _ _ (sym w.eq.ensures ∙ w.if-eq.false))
      | else-learned-node-via-else-learned-node w ↦ flag-other-master a.count a.node a.controller a.stream c.requires w.if-learned-node.false
    ]
