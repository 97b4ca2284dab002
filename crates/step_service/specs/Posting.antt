-- Posting, row by row: what the loop does is what the rule says, where the nodes are in order and have room. Assumes nothing.
use Rattle.std.specs.Prelude.{◌≡◌, refl, Bool, true, not, ◌&&◌, ℕ, zero, suc, ◌≤◌, ◌<◌}
use Rattle.std.proofs.Math.Path.{sym, ap}
use Rattle.std.proofs.Common.{◌∙◌, le_of_suc-le-suc, arith}
use Rattle.std.proofs.Math.Bool.{false}
use mathlib.Core.List.{List, [], ◌∷◌, map}
use Rattle.std.proofs.Math.Decide.{dec_lt}
use Rattle.std.proofs.Math.Dec.{leb}
use Rattle.std.proofs.Math.ListN.{length, get_or, get_or-eq_default}
use Rattle.std.proofs.lemmas.List.{length-map}
use Rattle.rules.specs.Limits.{queue_length, most_nodes}
use Rattle.rules.specs.State as S
use Rattle.rules.specs.Queues.{push, room, room_all}
use Rattle.any_list.specs.Arrays.{column}
use Rattle.any_list.specs.Columns.{length-column, column-at}
use Rattle.any_list.specs.Tables.{table-length, table-get, table_of}
use Rattle.any_list.specs.Rows.{map_first, map_first-length, map_first-in, map_first-out}
use Rattle.any_list.specs.Queue.{room-held}
use Rattle.step_parts.specs.Hold.{hold_mastership, pack_mastership, no_mastership, places, hold_events, pack_events, EventQueue}
use Rattle.step_parts.specs.Queues.{with_last}
use Rattle.step_parts.specs.Ordered.{OrderedMastership, OrderedEvents, push-events}
use Rattle.step_parts.specs.declared.Mastership.{Mastership}
use Rattle.step_state.specs.Hold.{events_at, learned_at, says_at, pack_controller, controller_row, pack_controllers}
use Rattle.step_state.specs.Order.{OrderedControllers, past_controller}
use Rattle.step_state.specs.Stores.{store_events}
use Rattle.step_state.specs.declared.Controller.{Controller}
use Rattle.step_service.specs.Asks.{hears}

-- ---- room

pub rooms-more : {A : Type 0} (q : List A) (qs : List (List A)) → room_all qs ≡ true → room q ≡ true → room_all (push q qs) ≡ true
unfolding room_all push
rooms-more q [] h k = simp k
rooms-more q (x ∷ qs) h k = go (room x) h (rooms-more q qs)
  where
    go : (b : Bool) → (b && room_all qs) ≡ true → (room_all qs ≡ true → room q ≡ true → room_all (push q qs) ≡ true) → (b && room_all (push q qs)) ≡ true
    go true h f = f h k
    go false h f = h

pub rooms-at : {A : Type 0} (qs : List (List A)) (i : ℕ) → i < length qs → room_all qs ≡ true → room (get_or qs i []) ≡ true
unfolding room_all
rooms-at [] i h e = absurd (omega arith)
rooms-at (q ∷ qs) i h e = go (room q) refl i h e (rooms-at qs)
  where
    go : (b : Bool) → room q ≡ b → (i : ℕ) → i < suc (length qs) → (b && room_all qs) ≡ true → ((i : ℕ) → i < length qs → room_all qs ≡ true → room (get_or qs i []) ≡ true)
        → room (get_or (q ∷ qs) i []) ≡ true
    go true p zero h e f = p
    go true p (suc i) h e f = f i (le_of_suc-le-suc h) e
    go false p i h e f = let z : ◌≡◌ {A = ℕ} 0 1 = cc in absurd (omega arith)

pub rooms-not : {A : Type 0} (qs : List (List A)) (i : ℕ) → i < length qs → room (get_or qs i []) ≡ false → room_all qs ≡ false
rooms-not qs i h e = go (room_all qs) refl
  where
    go : (b : Bool) → room_all qs ≡ b → b ≡ false
    go true p = sym (rooms-at qs i h p) ∙ e
    go false p = refl

-- a node has room exactly where its queue is not full
pub room_of : (q : EventQueue) → OrderedEvents q → room (hold_events q) ≡ not (leb queue_length q.len)
room_of q o = room-held no_mastership pack_mastership hold_mastership (places q) o

-- ---- the rows after the post

not-true : (b : Bool) → not b ≡ true → b ≡ false
not-true true e = sym e
not-true false e = refl

at_map : {A B : Type 0} (f : A → B) (l : List A) (i : ℕ) (d : A) (d' : B) → i < length l → get_or (map f l) i d' ≡ f (get_or l i d)
at_map f [] i d d' h = absurd (omega arith)
at_map f (x ∷ l) zero d d' h = refl
at_map f (x ∷ l) (suc i) d d' h = at_map f l i d d' (le_of_suc-le-suc h)

module _ (count : ℕ) (controllers : List Controller) (o : OrderedControllers count controllers) where
  events : List (List S.Mastership)
  events = column events_at count controllers

  pub controller-rows : length controllers ≡ most_nodes
  unfolding pack_controllers
  controller-rows = sym (ap length o.same) ∙ table-length most_nodes (controller_row (column events_at count controllers) (column learned_at count controllers) (column says_at count controllers))

  pub events-length : length (column events_at count controllers) ≡ count
  events-length = length-column events_at count controllers (let n = controller-rows in let f = o.few in omega arith)

  row : (i : ℕ) → i < most_nodes → get_or controllers i past_controller ≡ controller_row events (column learned_at count controllers) (column says_at count controllers) i
  unfolding pack_controllers events
  row i h = ap (λ (l : List Controller). get_or l i past_controller) (sym o.same) ∙ table-get most_nodes (controller_row events (column learned_at count controllers) (column says_at count controllers)) i past_controller h

  module _ (m : Mastership) (k : OrderedMastership m) (r : room_all (column events_at count controllers) ≡ true) where
    after_post : List (List S.Mastership)
    after_post = map (push (hold_mastership m)) events

    heard-row : (i : ℕ) → i < count → hears m (get_or controllers i past_controller) ≡ controller_row after_post (column learned_at count controllers) (column says_at count controllers) i
    unfolding after_post events
    heard-row i h =
        let f = o.few in
        let q = (get_or controllers i past_controller).events in
        let oq = (o.rows i h).events in
        let e : get_or (column events_at count controllers) i [] ≡ hold_events q = column-at events_at count i controllers past_controller h in
        let n = events-length in
        let full : leb queue_length q.len ≡ false = not-true (leb queue_length q.len) (sym (room_of q oq) ∙ ap room (sym e) ∙ rooms-at (column events_at count controllers) i (omega arith) r) in
        let pushed : with_last q m ≡ pack_events (get_or after_post i []) =
        ap (with_last q) (sym k.same) ∙ push-events q (hold_mastership m) oq full
        ∙ ap pack_events (ap (push (hold_mastership m)) (sym e) ∙ sym (at_map (push (hold_mastership m)) (column events_at count controllers) i [] [] (omega arith))) in
        let same = row i (omega arith) in
        λ j. record { events = pushed j; learned = (same j).learned; says = (same j).says }

    still-row : (i : ℕ) → i < most_nodes → count ≤ i → get_or controllers i past_controller ≡ controller_row after_post (column learned_at count controllers) (column says_at count controllers) i
    unfolding after_post events
    still-row i h c =
        let n = events-length in
        row i h
        ∙ ap (λ (q : List S.Mastership). pack_controller q (get_or (column learned_at count controllers) i S.blank) (get_or (column says_at count controllers) i false))
        (get_or-eq_default (column events_at count controllers) [] (omega arith)
        ∙ sym (get_or-eq_default (map (push (hold_mastership m)) (column events_at count controllers)) [] (rw (length-map (column events_at count controllers) (push (hold_mastership m))) (omega arith))))

    pub all-heard : map_first (hears m) count controllers ≡ store_events (map (push (hold_mastership m)) (column events_at count controllers)) count controllers
    unfolding pack_controllers after_post events
    all-heard =
        let n = controller-rows in
        table_of most_nodes (controller_row after_post (column learned_at count controllers) (column says_at count controllers)) (map_first (hears m) count controllers) past_controller
        (map_first-length (hears m) count controllers ∙ n) (λ i h. go i h (dec_lt i count))
      where
        go : (i : ℕ) → i < most_nodes → Dec (i < count) → get_or (map_first (hears m) count controllers) i past_controller ≡ controller_row after_post (column learned_at count controllers) (column says_at count controllers) i
        go i h (yes k) = map_first-in (hears m) count i controllers past_controller k (let n = controller-rows in omega arith) ∙ heard-row i k
        go i h (no k) = map_first-out (hears m) count i controllers past_controller (omega arith) ∙ still-row i h (omega arith)
