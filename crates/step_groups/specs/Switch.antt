-- Kinds 8 to 13 by the tests that the code makes. Assumes nothing.
use Rattle.std.specs.Prelude.{◌≡◌, Bool, true, false, List, ◌++◌, ℕ, ◌-◌, length}
use Rattle.std.proofs.Math.Path.{refl, sym}
use Rattle.std.proofs.Common.{ap, ◌∙◌, append-nil, arith}
use Rattle.std.proofs.Math.Bool.{not}
use Rattle.rules.specs.Codes.{step_done}
use Rattle.rules.specs.State as S
use Rattle.rules.specs.Part.{Rule, via, decide}
use Rattle.rules.specs.Parts.{Linked, Told, Telling, Served, Serving, Power, link_part, tell_part, serve_part, power_part, on_device}
use Rattle.rules.specs.Rules.{shutdown, startup, shutdown_rule, startup_rule, cleared}
use Rattle.rules.specs.Step.{act}
use Rattle.rules_laws.specs.Answered.{Passes}
use Rattle.step_state.specs.Hold.{hold_core, hold_board}
use Rattle.step_state.specs.Reads.{answer_of, linked_of, told_of, served_of, power_of}
use Rattle.step_state.specs.Stores.{store_open, store_telling, store_serving, pack_board, hold_accepted}
use Rattle.step_state.specs.declared.Stream.{Stream}
use Rattle.step_state.specs.declared.Board.{Board}
use Rattle.step_state.specs.declared.Body.{Body}
use Rattle.step_switch.specs.Asks.{AtBoard}
use Rattle.step_switch_row.specs.Asks.{AtStream}
use Rattle.step_moves.specs.Bodies.{state_of, Ready, Leaves, Left}
use Rattle.step_moves.specs.Sets.{with_board, with_stream, with_last}
use Rattle.step_moves.specs.Gets.{stream_of, linked-read, served-read}
use Rattle.step_moves.specs.Stored.{in-order-board, open-stored-at, telling-stored, serving-stored-at, power-stored}
use Rattle.step_moves.specs.Acts.{plain, done_at, passes}
use Rattle.step_groups.specs.At.{At, row_in, leaves-as}

module _ (b : Body) (n : ℕ) (a : At b n) (history : List S.Write) where
  -- ---- 8 Connect

  module _ (r : Rule Linked Bool) where
    pub link-yes : answer_of (decide r (linked_of b.running (stream_of b n))) ≡ step_done → (x : Stream) → x ≡ store_open (r.effect (linked_of b.running (stream_of b n))) (stream_of b n)
        → (m : Left) → m ≡ plain step_done (with_stream n x b) → Leaves history (via (on_device (link_part n)) (decide r) (state_of b history)) m
    link-yes h x f m e = let v = linked_of b.running (stream_of b n) in
        leaves-as history _ (plain step_done (with_stream n x b)) m e
        (done_at (on_device (link_part n)) r b a.ready history v (linked-read b n (row_in b n a) history) (passes r v h) (plain step_done (with_stream n x b)) refl
        (ap (λ (y : Stream). with_stream n y b) f ∙ open-stored-at b a.ready history n (row_in b n a) (r.effect v)) (sym (append-nil history)))

  -- ---- 9, 10 Close, Handle update: for either rule

  module _ (r : Rule Told Telling) where
    abbrev v : Told
    v = told_of b.count n b.running b.core.streams b.core.claims

    pub tell_yes : answer_of (decide r (told_of b.count n b.running b.core.streams b.core.claims)) ≡ step_done
        → (x : Board) → x ≡ store_telling n (r.effect (told_of b.count n b.running b.core.streams b.core.claims)) b.count b.core.streams b.core.claims
        → (m : Left) → m ≡ plain step_done (with_board b.running x.streams x.claims b) → Leaves history (via (on_device (tell_part n)) (decide r) (state_of b history)) m
    unfolding hold_core
    tell_yes h x f m e = let put : Board → Body = λ y. with_board b.running y.streams y.claims b in
        leaves-as history _ (plain step_done (put x)) m e
        (done_at (on_device (tell_part n)) r b a.ready history v refl (passes r v h) (plain step_done (put x)) refl
        (ap put f ∙ telling-stored b a.ready history n (r.effect v)) (sym (append-nil history)))

  -- ---- 11 Handle write

  module _ (r : Rule Served Serving) where
    abbrev u : Served
    u = served_of n b.running (stream_of b n) b.core.claims (length history)

    pub serve-yes : Passes r (served_of n b.running (stream_of b n) b.core.claims (length history)) → (m : Left) → m.code ≡ step_done
        → m.body ≡ with_last (record { 0 = (r.effect (served_of n b.running (stream_of b n) b.core.claims (length history))).last })
        (with_stream n (store_serving (r.effect (served_of n b.running (stream_of b n) b.core.claims (length history))) (stream_of b n)) b)
        → (r.effect (served_of n b.running (stream_of b n) b.core.claims (length history))).accepted ≡ hold_accepted m.accepted
        → Leaves history (via (on_device (serve_part n)) (decide r) (state_of b history)) m
    serve-yes p m c f g =
        done_at (on_device (serve_part n)) r b a.ready history u (served-read b n (row_in b n a) history) p m c
        (f ∙ serving-stored-at b a.ready history n (row_in b n a) (r.effect u)) (ap (λ (l : List S.Write). history ++ l) g)

module _ (b : Body) (n : ℕ) (a : At b n) where
  pub at-board : AtBoard b.count n b.core.streams b.core.claims
  at-board = record { board = in-order-board b a.ready; from = a.low; upto = a.high }

  pub at-stream : AtStream n (stream_of b n)
  at-stream = record { from = a.low; upto = let few = a.few in let high = a.high in omega arith; ordered = (in-order-board b a.ready).rows (n - 1) (row_in b n a) }

-- ---- 12, 13 Shutdown, Startup: they carry node 0

module _ (b : Body) (ready : Ready b) (history : List S.Write) where
  abbrev w : Power
  w = power_of b.count b.running b.core.streams b.core.claims

  power-yes : (r : Rule Power Power) → Passes r w → (x : Board) → x ≡ pack_board (r.effect w).board
      → (m : Left) → m ≡ plain step_done (with_board (r.effect w).running x.streams x.claims b) → Leaves history (via (on_device power_part) (decide r) (state_of b history)) m
  unfolding hold_core
  power-yes r p x f m e = let put : Board → Body = λ y. with_board (r.effect w).running y.streams y.claims b in
      leaves-as history _ (plain step_done (put x)) m e
      (done_at (on_device power_part) r b ready history w refl p (plain step_done (put x)) refl
      (ap put f ∙ power-stored b ready history (r.effect w)) (sym (append-nil history)))

  pub shutdown-yes : b.running ≡ true → (x : Board) → x ≡ pack_board (cleared (hold_board b.count b.core.streams b.core.claims))
      → (m : Left) → m ≡ plain step_done (with_board false x.streams x.claims b) → Leaves history (act shutdown 0 (state_of b history)) m
  unfolding shutdown_rule
  shutdown-yes h x f m e = power-yes shutdown_rule (record { allowed = rw h tt; term = tt; history = tt; queues = tt }) x f m e

  pub startup-yes : b.running ≡ false → (m : Left) → m ≡ plain step_done (with_board true b.core.streams b.core.claims b) → Leaves history (act startup 0 (state_of b history)) m
  unfolding startup_rule
  startup-yes h m e =
      let o = in-order-board b ready in
      power-yes startup_rule (record { allowed = rw (ap not h) tt; term = tt; history = tt; queues = tt }) (record { streams = b.core.streams; claims = b.core.claims })
      (λ i. record { streams = sym o.streams-same i; claims = sym o.claims-same i }) m e
