-- Kinds 1 and 2 by the tests that the code makes. Assumes nothing.
use Rattle.std.specs.Prelude.{◌≡◌, Bool, cond, ℕ, ◌≤◌}
use Rattle.std.proofs.Math.Path.{refl, ap}
use Rattle.std.proofs.Common.{sym, ap₂, subst, ◌∙◌, arith, ne_eqb}
use Rattle.std.proofs.Math.Bool.{true, false}
use mathlib.Core.List.{List, [], ◌∷◌, map, append-nil}
use Rattle.std.proofs.Math.ListN.{length, length-append}
use Rattle.rules.specs.Codes.{step_done}
use Rattle.rules.specs.Limits.{most_backups, top_term}
use Rattle.rules.specs.State as S
use Rattle.rules.specs.Queues.{push, room_all}
use Rattle.rules.specs.Ids.{named}
use Rattle.rules.specs.Part.{Rule, via, decide}
use Rattle.rules.specs.Parts.{service_part}
use Rattle.rules.specs.Rules.{join_rule, leave_rule, joined, left, vacant, hands_over, posted, unposted}
use Rattle.rules_laws.specs.InRange.{DeskFits, ServiceFits, masterless, ruled}
use Rattle.rules_laws.specs.KeepsService.{join-fits, leave_fits}
use Rattle.rules_laws.specs.Answered.{Passes}
use Rattle.rules_laws.specs.Tests.{is-yes}
use Rattle.any_list.specs.Arrays.{column}
use Rattle.step_parts.specs.Hold.{hold_mastership, pack_mastership}
use Rattle.step_parts.specs.Ordered.{OrderedMastership, ordered-mastership, mastership-back}
use Rattle.step_parts.specs.declared.Mastership.{Mastership}
use Rattle.step_state.specs.Hold.{events_at, hold_desk, hold_core}
use Rattle.step_state.specs.Reads.{answer_of}
use Rattle.step_state.specs.Stores.{store_events}
use Rattle.step_state.specs.declared.Controller.{Controller}
use Rattle.step_state.specs.declared.Body.{Body}
use Rattle.step_bridge.specs.InOrder.{service-short}
use Rattle.step_service.specs.Asks.{Joins, Leaving}
use Rattle.step_moves.specs.Bodies.{state_of, Leaves, Left}
use Rattle.step_moves.specs.Sets.{with_desk}
use Rattle.step_moves.specs.Stored.{fits-core, in-order-controllers, in-order-service, desk-stored}
use Rattle.step_moves.specs.Acts.{plain, done_at, passes}
use Rattle.step_groups.specs.At.{At, leaves-as}

-- what the service and its nodes hold
abbrev pub desk_at : Body → S.Desk
desk_at b = hold_desk b.count b.core.service b.core.controllers

service-term : (count : ℕ) (m : S.Mastership) → ServiceFits count m → m.term ≤ top_term
service-term count m (masterless e h t) = t
service-term count m (ruled k) = k.term.upper

-- a mastership in range, written, is in order
written : (b : Body) (n : ℕ) → At b n → (m : S.Mastership) → ServiceFits b.count m → (x : Mastership) → x ≡ pack_mastership m → OrderedMastership x
written b n a m k x e = subst OrderedMastership (sym e) (ordered-mastership m (service-short b.count a.few m k))

module _ (b : Body) (n : ℕ) (a : At b n) where
  desk-fits : DeskFits b.count (desk_at b)
  unfolding hold_core
  desk-fits = (fits-core b a.ready).desk

  -- where every test holds: the service's mastership, and all event queues
  service-yes : (r : Rule S.Desk S.Desk) (history : List S.Write) → Passes r (desk_at b)
      → (x : Mastership) → x ≡ pack_mastership (r.effect (desk_at b)).service → (l : List Controller) → l ≡ store_events (r.effect (desk_at b)).events b.count b.core.controllers
      → (m : Left) → m ≡ plain step_done (with_desk x l b) → Leaves history (via service_part (decide r) (state_of b history)) m
  unfolding hold_core
  service-yes r history p x f l g m e =
      leaves-as history _ (plain step_done (with_desk x l b)) m e
      (done_at service_part r b a.ready history (desk_at b) refl p (plain step_done (with_desk x l b)) refl
      (ap₂ (λ (y : Mastership) (k : List Controller). with_desk y k b) f g ∙ desk-stored b a.ready history (r.effect (desk_at b))) (sym (append-nil history)))

  -- ---- 1 Join

  module _ (z : answer_of (decide (join_rule n) (desk_at b)) ≡ step_done) where
    join-passes : Passes (join_rule n) (desk_at b)
    join-passes = passes (join_rule n) (desk_at b) z

    joined-service : ServiceFits b.count (joined n (hold_mastership b.core.service))
    unfolding hold_desk join_rule posted
    joined-service = (join-fits b.count n (desk_at b) (record { lower = a.low; upper = a.high }) desk-fits join-passes).service

    pub joins : Joins b.core.service
    unfolding hold_desk joined vacant push
    joins = record {
      ordered = in-order-service b a.ready;
      term = service-term b.count (hold_mastership b.core.service) desk-fits.service;
      spare = λ h.
          let l = (hold_mastership b.core.service).backups in
          let s = service-short b.count a.few (joined n (hold_mastership b.core.service)) joined-service in
          let k : length (push n l) ≤ most_backups = simp (ne_eqb b.core.service.master 0 h) at s in
          let q = length-append l (n ∷ []) in
          omega arith;
    }

    pub join_written : (x : Mastership) → x ≡ pack_mastership (joined n (hold_mastership b.core.service)) → OrderedMastership x
    join_written x e = written b n a (joined n (hold_mastership b.core.service)) joined-service x e

    pub join-room : room_all (column events_at b.count b.core.controllers) ≡ true
    unfolding hold_desk join_rule
    join-room = (is-yes (room_all (column events_at b.count b.core.controllers))).to join-passes.queues

    pub join-yes : (history : List S.Write) (x : Mastership) → x ≡ pack_mastership (joined n (hold_mastership b.core.service))
        → (l : List Controller) → l ≡ store_events (map (push (hold_mastership x)) (column events_at b.count b.core.controllers)) b.count b.core.controllers
        → (m : Left) → m ≡ plain step_done (with_desk x l b) → Leaves history (via service_part (decide (join_rule n)) (state_of b history)) m
    unfolding join_rule posted hold_desk
    join-yes history x f l g m e =
        let h : hold_mastership x ≡ joined n (hold_mastership b.core.service) = ap hold_mastership f ∙ mastership-back (joined n (hold_mastership b.core.service)) in
        service-yes (join_rule n) history join-passes x f l
        (g ∙ ap (λ (y : S.Mastership). store_events (map (push y) (column events_at b.count b.core.controllers)) b.count b.core.controllers) h) m e

  -- ---- 2 Leave

  module _ (z : answer_of (decide (leave_rule n) (desk_at b)) ≡ step_done) where
    abbrev service : S.Mastership
    service = hold_mastership b.core.service

    leave-passes : Passes (leave_rule n) (desk_at b)
    leave-passes = passes (leave_rule n) (desk_at b) z

    left-service : ServiceFits b.count (left n service)
    unfolding hold_desk leave_rule posted unposted
    left-service = go (hands_over n service) (leave_fits b.count n (desk_at b) desk-fits leave-passes).service
      where
        go : (h : Bool) → ServiceFits b.count (cond h (posted (left n service) (desk_at b)) (unposted (left n service) (desk_at b))).service → ServiceFits b.count (left n service)
        go true k = k
        go false k = k

    pub leaving : Leaving b.core.service n
    unfolding hold_desk leave_rule
    leaving = record {
      ordered = in-order-service b a.ready;
      term = service-term b.count service desk-fits.service;
      name = (is-yes (named n service)).to leave-passes.allowed;
    }

    pub leave-written : (x : Mastership) → x ≡ pack_mastership (left n (hold_mastership b.core.service)) → OrderedMastership x
    leave-written x e = written b n a (left n service) left-service x e

    pub leave_room : hands_over n (hold_mastership b.core.service) ≡ true → room_all (column events_at b.count b.core.controllers) ≡ true
    unfolding hold_desk leave_rule
    leave_room h = (is-yes (room_all (column events_at b.count b.core.controllers))).to (rw h at leave-passes.queues)

    pub leave-posts : hands_over n (hold_mastership b.core.service) ≡ true → (history : List S.Write) (x : Mastership) → x ≡ pack_mastership (left n (hold_mastership b.core.service))
        → (l : List Controller) → l ≡ store_events (map (push (hold_mastership x)) (column events_at b.count b.core.controllers)) b.count b.core.controllers
        → (m : Left) → m ≡ plain step_done (with_desk x l b) → Leaves history (via service_part (decide (leave_rule n)) (state_of b history)) m
    unfolding leave_rule posted hold_desk
    leave-posts o history x f l g m e =
        let h : hold_mastership x ≡ left n service = ap hold_mastership f ∙ mastership-back (left n service) in
        let k : (leave_rule n).effect (desk_at b) ≡ posted (left n service) (desk_at b) = simp o in
        service-yes (leave_rule n) history leave-passes x (f ∙ ap (λ (d : S.Desk). pack_mastership d.service) (sym k)) l
        (g ∙ ap (λ (y : S.Mastership). store_events (map (push y) (column events_at b.count b.core.controllers)) b.count b.core.controllers) h
        ∙ ap (λ (d : S.Desk). store_events d.events b.count b.core.controllers) (sym k)) m e

    pub leave-quiet : hands_over n (hold_mastership b.core.service) ≡ false → (history : List S.Write) (x : Mastership) → x ≡ pack_mastership (left n (hold_mastership b.core.service))
        → (m : Left) → m ≡ plain step_done (with_desk x b.core.controllers b) → Leaves history (via service_part (decide (leave_rule n)) (state_of b history)) m
    unfolding leave_rule unposted hold_desk
    leave-quiet o history x f m e =
        let k : (leave_rule n).effect (desk_at b) ≡ unposted (left n service) (desk_at b) = simp o in
        service-yes (leave_rule n) history leave-passes x (f ∙ ap (λ (d : S.Desk). pack_mastership d.service) (sym k)) b.core.controllers
        (sym (in-order-controllers b a.ready).same ∙ ap (λ (d : S.Desk). store_events d.events b.count b.core.controllers) (sym k)) m e
