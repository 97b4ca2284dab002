use mathlib.Core.Path.{◌≡◌, sym, ap, subst, ◌∙◌}
use Prim.Native.Nat.{ℕ, ◌≤◌}
use Rattle.std.proofs.lemmas.Result.{err_from_is_err_and}
use mathlib.Core.Bool.{true}
use mathlib.Core.List.{map}
use Rattle.rules.specs.Queues.{push, room_all}
use Rattle.rules.specs.Step.{kind_of}
use Rattle.any_list.specs.Arrays.{column}
use Rattle.step_parts.specs.Hold.{hold_mastership}
use Rattle.step_state.specs.Hold.{events_at}
use Rattle.step_state.specs.Stores.{store_events}
use Rattle.step_state.specs.Order.{OrderedControllers}
use Rattle.step_moves.specs.Stored.{few, in-order-controllers}
use Rattle.step_asks.specs.declared.Ask.{Ask}
use Rattle.step_asks.specs.Kinds.{DeskKind, desk-at}
use Rattle.step_groups.specs.Turns.{desk_answer, service_after, posting}
use Rattle.step_groups.specs.Asks.{DeskGoes}
use Rattle.step_groups.specs.At.{At}
use Rattle.step_groups.specs.Called.{ask_of, refused-by}
use Rattle.step_groups.specs.DeskTurns.{desk-answered, desk-goes, desk-written, desk-room, desk-posts, desk-quiet}
use Rattle.step_body.proofs.at_desk.Goals as goal
use Rattle.step_body.proofs.at_desk.Goals.{After-posts, After-service_after-next, Start}

node_of : (s : Start) → At s.args.body.now s.args.ask.node
node_of s =
    let b = s.args.body.now in
    let w = (desk-at s.args.ask s.requires.2).1 in
    record { ready = s.requires.0; low = w.lower; high = subst (λ (k : ℕ). s.args.ask.node ≤ k) (ap (λ (a : Ask). a.count) s.requires.1) w.upper; few = few b s.requires.0 }

kind-of : (s : Start) → DeskKind s.args.ask.kind
kind-of s = (desk-at s.args.ask s.requires.2).0

-- The number of the check's answer is that of the rules, of a step that is asked of the body.
answered : (s : Start) (code : ℕ) → code ≡ desk_answer s.args.ask s.args.body.now.core.service s.args.body.now.core.controllers
    → code ≡ desk_answer (ask_of s.args.body.now s.args.ask.kind s.args.ask.node) s.args.body.now.core.service s.args.body.now.core.controllers
answered s code e = let core = s.args.body.now.core in e ∙ ap (λ (a : Ask). desk_answer a core.service core.controllers) s.requires.1

-- And so is what follows it.
after : (c : After-service_after-next) → c.service_after-next.result ≡ service_after (ask_of c.args.body.now c.args.ask.kind c.args.ask.node) c.args.body.now.core.service
after c = c.service_after-next.ensures ∙ ap (λ (a : Ask). service_after a c.args.body.now.core.service) c.requires.1

told : (c : After-posts) → posting (ask_of c.args.body.now c.args.ask.kind c.args.ask.node) c.args.body.now.core.service ≡ c.posts.result
told c = sym (c.posts.ensures ∙ ap (λ (a : Ask). posting a c.args.body.now.core.service) c.requires.1)

in-order : (s : Start) → OrderedControllers s.args.ask.count s.args.body.now.core.controllers
in-order s =
    let b = s.args.body.now in
    subst (λ (k : ℕ). OrderedControllers k b.core.controllers) (sym (ap (λ (a : Ask). a.count) s.requires.1)) (in-order-controllers b s.requires.0)

pub check_desk-requires : goal.check_desk-requires
check_desk-requires c = in-order (goal.at.check_desk-requires c).Start

pub returns-in_err-check_desk-clause-leaves : goal.returns-in_err-check_desk-clause-leaves
returns-in_err-check_desk-clause-leaves c = λ history.
    let b = c.args.body.now in
    let n = c.args.ask.node in
    let k = c.args.ask.kind in
    let s = (goal.at.returns-in_err-check_desk-clause-leaves c).Start in
    let p = err_from_is_err_and c.from_residual.result c.from_residual.ensures.1 in
    rw (p.1, p.2)
    (refused-by b c.requires.0 n history (kind_of k) c.in_err-check_desk.field-0.0 (answered s _ c.in_err-check_desk.ensures ∙ desk-answered b n (node_of s) history k (kind-of s)))

pub service_after-next-requires : goal.service_after-next-requires
service_after-next-requires c =
    let b = c.args.body.now in
    let s = (goal.at.service_after-next-requires c).Start in
    subst (λ (a : Ask). DeskGoes a b.core.service) (sym c.requires.1) (desk-goes b c.args.ask.node (node_of s) c.args.ask.kind (kind-of s) (sym (answered s _ c.in_ok-check_desk.ensures)))

pub post-requires : goal.post-requires
post-requires c =
    let b = c.args.body.now in
    let n = c.args.ask.node in
    let k = c.args.ask.kind in
    let g = goal.at.post-requires c in
    let s = g.Start in
    let done = sym (answered s _ c.in_ok-check_desk.ensures) in
    let room = desk-room b n (node_of s) k (kind-of s) done (told g.After-posts ∙ c.if-posts.true) in (
      in-order s,
      desk-written b n (node_of s) k (kind-of s) done c.service_after-next.result (after g.After-service_after-next),
      subst (λ (j : ℕ). room_all (column events_at j b.core.controllers) ≡ true) (sym (ap (λ (a : Ask). a.count) c.requires.1)) room,
    )

pub returns-then-posts-clause-leaves : goal.returns-then-posts-clause-leaves
returns-then-posts-clause-leaves c = λ history.
    let b = c.args.body.now in
    let n = c.args.ask.node in
    let k = c.args.ask.kind in
    let g = goal.at.returns-then-posts-clause-leaves c in
    let s = g.Start in
    let x = c.service_after-next.result in
    desk-posts b n (node_of s) history k (kind-of s) (sym (answered s _ c.in_ok-check_desk.ensures)) (told g.After-posts ∙ c.if-posts.true) x (after g.After-service_after-next)
    _ (c.post.ensures ∙ ap (λ (a : Ask). store_events (map (push (hold_mastership x)) (column events_at a.count b.core.controllers)) a.count b.core.controllers) c.requires.1)

pub returns-else-posts-clause-leaves : goal.returns-else-posts-clause-leaves
returns-else-posts-clause-leaves c = λ history.
    let b = c.args.body.now in
    let g = goal.at.returns-else-posts-clause-leaves c in
    let s = g.Start in
    desk-quiet b c.args.ask.node (node_of s) history c.args.ask.kind (kind-of s) (sym (answered s _ c.in_ok-check_desk.ensures)) (told g.After-posts ∙ c.if-posts.false) c.service_after-next.result
    (after g.After-service_after-next)
