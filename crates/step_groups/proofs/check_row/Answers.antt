use mathlib.Core.Path.{ap, ◌∙◌}
use mathlib.Core.Bool.{Bool, cond}
use lib.Dec.{leb}
use Rattle.rules.specs.Codes.{step_done, not_allowed}
use Rattle.rules.specs.Limits.{queue_length}
use Rattle.step_nodes.specs.Waiting.{send_answer}
use Rattle.step_asks.specs.Kinds.{last_row}
use Rattle.step_groups.specs.Answers.{learn-answer, send-update-answer, receive-update-answer, send-write-answer, receive-write-answer}
use native.Mathlib.Omega.{arith}
use Rattle.step_groups.proofs.check_row.Goals as goal

pub check_handle_write-requires : goal.check_handle_write-requires
check_handle_write-requires c =
    let asks = c.requires in
    let few = asks.within.few in
    let upto = asks.within.upto in
    record { from = asks.within.from; upto = omega arith; ordered = asks.ordered-stream }

pub returns-in-3 : goal.returns-in-3
returns-in-3 c =
    rw c.in-3.is (c.check_allowed.ensures ∙ ap (λ (x : Bool). cond x step_done not_allowed) c.may_learn.ensures ∙ learn-answer c.args.controller.now)

pub returns-in-4 : goal.returns-in-4
returns-in-4 c =
    rw c.in-4.is
    (c.check_send.ensures ∙ ap (λ (x : Bool). send_answer x (leb queue_length c.args.stream.now.requests.len)) c.may_send_update.ensures
    ∙ send-update-answer c.args.ask.count c.args.controller.now c.args.stream.now c.requires.ordered-stream c.args.ask.node)

pub returns-in-5 : goal.returns-in-5
returns-in-5 c =
    rw c.in-5.is
    (c.check_allowed-in-5.ensures ∙ ap (λ (x : Bool). cond x step_done not_allowed) c.may_receive_update.ensures
    ∙ receive-update-answer c.args.ask.count c.args.controller.now c.args.stream.now c.args.ask.node)

pub returns-in-6 : goal.returns-in-6
returns-in-6 c =
    rw c.in-6.is
    (c.check_send-in-6.ensures ∙ ap (λ (x : Bool). send_answer x (leb queue_length c.args.stream.now.requests.len)) c.may_send_write.ensures
    ∙ send-write-answer c.args.ask.count c.args.controller.now c.args.stream.now c.requires.ordered-stream c.args.ask.node)

pub returns-in-7 : goal.returns-in-7
returns-in-7 c =
    rw c.in-7.is
    (c.check_allowed-in-7.ensures ∙ ap (λ (x : Bool). cond x step_done not_allowed) c.may_receive_write.ensures
    ∙ receive-write-answer c.args.ask.count c.args.controller.now c.args.stream.now)

pub returns-in-8 : goal.returns-in-8
returns-in-8 c = rw c.in-8.is (c.check_connect.ensures)

pub returns-in_default : goal.returns-in_default
returns-in_default c =
    let m = c.in_default.in_default-own in
    rw (last_row _ c.requires.kind m.rest.0.0.0.0.0.1 m.rest.0.0.0.0.1 m.rest.0.0.0.1 m.rest.0.0.1 m.rest.0.1 m.rest.1) (c.check_handle_write.ensures)
