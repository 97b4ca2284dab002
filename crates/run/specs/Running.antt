-- A run that has passed the first i records: what the locals of the loop hold, and one record more. Assumes nothing.
use Rattle.std.specs.Prelude.{◌≡◌, refl, Option, Some, None, OnSome, ℕ, ◌+◌, ◌*◌, ◌≤◌, ◌<◌, T, set, take}
use Rattle.std.proofs.Math.Path.{sym, ap, ap₂}
use Rattle.std.proofs.Common.{◌∙◌, length-take-le}
use mathlib.Core.List.{List, ◌++◌, append-nil}
use native.Mathlib.Omega.{arith}
use Rattle.std.proofs.Math.ListN.{length, length-append}
use Rattle.std.proofs.Math.Seq.{sets}
use Rattle.rules.specs.Limits.{history_length}
use Rattle.rules.specs.State.{State, Write}
use Rattle.rules.specs.Range.{in_range}
use Rattle.rules.specs.Queues.{push}
use Rattle.rules.specs.Part.{Result}
use Rattle.rules.specs.Step.{Event, kind_of, of_kind, step, fresh}
use Rattle.rules.specs.Run.{run}
use Rattle.rules_laws.specs.RangeTest.{range-sound}
use Rattle.rules_laws.specs.Runs.{run-state, run-answer, run_length}
use Rattle.rules_laws.specs.Steps.{step_keeps, run-keeps, fresh-fits}
use Rattle.step_parts.specs.Hold.{hold_write}
use Rattle.step_parts.specs.declared.Write as P
use Rattle.step_state.specs.Stores.{hold_accepted}
use Rattle.step_state.specs.declared.Body.{Body}
use Rattle.step_moves.specs.Bodies.{state_of, body_of, Ready, Leaves, Left}
use Rattle.run_lists.specs.EventList.{node_count, record_count, record_at, records, history_bytes, over}
use Rattle.run_lists.specs.Good.{records-length, records-more, records-all}
use Rattle.run_lists.specs.Written.{filled, filled_none, filled-length, filled-answer, filled-entry, filled-all}
use Rattle.run_lists.specs.Trails.{Trails}
use Rattle.run_lists.specs.declared.Trailer.{Trailer}
use Rattle.run.specs.Ran.{history_room, whole_run}
use Rattle.run.specs.Advances as A

-- ---- what a run rests on

-- The entry of a step's write, if it accepted one, in a buffer that a run fills.
pub filled-accepted : (total : ℕ) (out : List ℕ) → total ≤ length out → (answers : List ℕ) (ws : List Write) (o : Option P.Write) → length answers ≤ total
    → OnSome o (total + 4 * length ws + 4 ≤ length out)
    → sets (filled total answers ws out) (total + 4 * length ws) (history_bytes (hold_accepted o)) ≡ filled total answers (ws ++ hold_accepted o) out
unfolding history_bytes push
filled-accepted total out h answers ws (Some w) k room = filled-entry total out h answers ws (hold_write w) k room
filled-accepted total out h answers ws None k room = ap (λ (l : List Write). filled total answers l out) (sym (append-nil ws))

-- The list is not refused, the trailer is its own, and the buffer of `size` bytes is long enough.
pub record Runs (list : List ℕ) (t : Trailer) (size : ℕ) : Type 0 where
  pub trailer : Trails list t
  pub room : t.records + history_room ≤ size

-- The answers to the first i records, and the state that they leave.
abbrev pub after : List ℕ → ℕ → Result (List ℕ) State
after list i = run step (fresh (node_count list)) (take i (records list))

-- What the loop holds once it has passed i records: the buffer, the body and the number of writes.
pub record Running (list out₀ : List ℕ) (i : ℕ) (out : List ℕ) (b : Body) (n : ℕ) : Type 0 where
  pub body : b ≡ body_of (after list i).state
  pub writes : n ≡ length (after list i).state.history
  pub filling : out ≡ filled (record_count list) (after list i).answer (after list i).state.history out₀

module _ {list : List ℕ} {t : Trailer} (out₀ : List ℕ) (runs : Runs list t (length out₀)) where
  fits : (i : ℕ) → T (in_range (after list i).state)
  fits i = run-keeps (take i (records list)) (fresh (node_count list)) (fresh-fits (node_count list) runs.trailer.good.nodes.lower runs.trailer.good.nodes.upper)

  passed : (i : ℕ) → i ≤ record_count list → length (after list i).answer ≡ i
  passed i h = run_length step (fresh (node_count list)) (take i (records list)) ∙ length-take-le i (records list) (let k = records-length list in omega arith)

  pub starts : (b : Body) → b ≡ body_of (fresh t.nodes) → Running list out₀ 0 out₀ b 0
  unfolding fresh
  starts b e = record {
    body = e ∙ ap (λ (n : ℕ). body_of (fresh n)) runs.trailer.nodes;
    writes = refl;
    filling = sym (filled_none (record_count list) out₀ (omega arith));
  }

  module _ {i n : ℕ} {out : List ℕ} {b : Body} (now : Running list out₀ i out b n) where
    pub keeps-length : i ≤ record_count list → length out ≡ length out₀
    keeps-length h =
        let k = (range-sound (after list i).state (fits i)).history-size in
        ap length now.filling ∙ filled-length (record_count list) out₀ (omega arith) (after list i).answer (after list i).state.history (let p = passed i h in omega arith) (omega arith)

    pub ready : Ready b
    ready = A.ready (after list i).state (fits i) b now.body

    module _ {e : Event} {m : Left} (is : e ≡ record_at list i)
        (leaves : (history : List Write) → length history ≡ n → Leaves history (of_kind (kind_of e.kind) e.node (state_of b history)) m) where
      s : State
      s = (after list i).state

      left : Leaves s.history (step e s) m
      unfolding s
      left = A.advances s (fits i) b now.body e.kind e.node m (leaves s.history (sym now.writes))

      room_for : (o : Option P.Write) → m.accepted ≡ o → OnSome o (n < history_length)
      unfolding s
      room_for None z = tt
      room_for (Some w) z =
          let short = (range-sound (step e s).state (step_keeps e s (fits i))).history-size in
          let grown = ap length left.history-grows ∙ length-append s.history (hold_accepted m.accepted) in
          let one : length (hold_accepted m.accepted) ≡ 1 = ap (λ (o : Option P.Write). length (hold_accepted o)) z in
          let k = now.writes in
          omega arith

      pub room-left : OnSome m.accepted (n < history_length)
      room-left = room_for m.accepted refl

      pub goes_on : i < record_count list → {out' : List ℕ}
          → out' ≡ sets (set out i m.code) (t.records + 4 * n) (history_bytes (hold_accepted m.accepted))
          → {n' : ℕ} → n' ≡ n + length (hold_accepted m.accepted)
          → Running list out₀ (i + 1) out' m.body n'
      unfolding s
      goes_on lt f g = record {
        body = left.body ∙ ap body_of (sym more-state);
        writes = g ∙ ap (λ (k : ℕ). k + length ws) now.writes ∙ sym (length-append s.history ws) ∙ ap length (sym more-history);
        filling =
            f
            ∙ ap (λ (k : ℕ). sets (set out i m.code) (k + 4 * n) (history_bytes ws)) runs.trailer.records
            ∙ ap₂ (λ (l : List ℕ) (k : ℕ). sets (set l i m.code) (record_count list + 4 * k) (history_bytes ws)) now.filling now.writes
            ∙ ap (λ (k : ℕ). sets (set (filled (record_count list) (after list i).answer s.history out₀) k m.code) (record_count list + 4 * length s.history) (history_bytes ws)) (sym (passed i (omega arith)))
            ∙ ap (λ (l : List ℕ). sets l (record_count list + 4 * length s.history) (history_bytes ws))
            (filled-answer (record_count list) out₀ (omega arith) (after list i).answer s.history m.code (let p = passed i (omega arith) in omega arith))
            ∙ filled-accepted (record_count list) out₀ (omega arith) (push m.code (after list i).answer) s.history m.accepted fit (entry-fits m.accepted room-left)
            ∙ ap₂ (λ (answers : List ℕ) (l : List Write). filled (record_count list) answers l out₀) (sym more-answers) (sym more-history);
      }
        where
          ws : List Write
          ws = hold_accepted m.accepted

          one_more : take (i + 1) (records list) ≡ push e (take i (records list))
          one_more = records-more list i lt ∙ ap (λ (x : Event). push x (take i (records list))) (sym is)

          more-state : (after list (i + 1)).state ≡ (step e s).state
          more-state = ap (λ (es : List Event). (run step (fresh (node_count list)) es).state) one_more ∙ run-state step (fresh (node_count list)) (take i (records list)) e

          more-answers : (after list (i + 1)).answer ≡ push m.code (after list i).answer
          more-answers = ap (λ (es : List Event). (run step (fresh (node_count list)) es).answer) one_more
              ∙ run-answer step (fresh (node_count list)) (take i (records list)) e
              ∙ ap (λ (a : ℕ). push a (after list i).answer) (sym left.code)

          more-history : (after list (i + 1)).state.history ≡ s.history ++ ws
          more-history = ap (λ (x : State). x.history) more-state ∙ left.history-grows

          entry-fits : (o : Option P.Write) → OnSome o (n < history_length) → OnSome o (record_count list + 4 * length s.history + 4 ≤ length out₀)
          entry-fits None z = tt
          entry-fits (Some w) z = let k = z in let w = now.writes in omega arith

          fit : length (push m.code (after list i).answer) ≤ record_count list
          fit = let p = passed (i + 1) (omega arith) in let q = ap length more-answers in omega arith

  pub ends : {n : ℕ} {out : List ℕ} {b : Body} → Running list out₀ t.records out b n
      → (n ≡ length (whole_run list).state.history) × (out ≡ over ((whole_run list).answer ++ history_bytes (whole_run list).state.history) out₀)
  ends now =
      let all : take t.records (records list) ≡ records list = ap (λ (k : ℕ). take k (records list)) runs.trailer.records ∙ records-all list in
      let r = run_length step (fresh (node_count list)) (records list) ∙ records-length list in (
        now.writes ∙ ap (λ (es : List Event). length (run step (fresh (node_count list)) es).state.history) all,
        now.filling
            ∙ ap (λ (es : List Event). filled (record_count list) (run step (fresh (node_count list)) es).answer (run step (fresh (node_count list)) es).state.history out₀) all
            ∙ filled-all (record_count list) out₀ (omega arith) (whole_run list).answer (whole_run list).state.history r,
      )
