-- Telling the open streams, row by row, is what the rules do to all responses, where every open stream has room. Assumes nothing.
use mathlib.Core.Path.{◌≡◌, refl, sym, ap, ◌∙◌}
use mathlib.Core.Bool.{Bool, true, false, not, cond, ◌&&◌, ◌||◌}
use mathlib.Core.List.{List, [], ◌∷◌}
use Prim.Native.Nat.{ℕ, zero, suc, ◌+◌, ◌<◌}
use native.Mathlib.Nat.{add-zero, add-suc, suc-add}
use native.Mathlib.Omega.{arith}
use lib.Dec.{ltb→lt}
use lib.ListN.{length, get_or}
use borrow.Author.Tests.{lt-leb}
use Rattle.rules.specs.Limits.{most_nodes, queue_length}
use Rattle.rules.specs.State as S
use Rattle.rules.specs.Queues.{push, room}
use Rattle.rules.specs.Election.{tell_from, tell_all, room_open}
use Rattle.any_list.specs.Padded.{held-padded}
use Rattle.any_list.specs.Arrays.{table}
use Rattle.any_list.specs.Tables.{table_of, table-get, table-length}
use Rattle.step_parts.specs.Hold.{hold_response, pack_response, no_response, pack_responses}
use Rattle.step_parts.specs.Ordered.{ordered-responses, push-responses, response-back}
use Rattle.step_parts.specs.Queues.{with_last}
use Rattle.step_state.specs.Hold.{pack_stream, pack_streams, stream_row}
use Rattle.step_state.specs.Order.{past_stream}
use Rattle.step_state.specs.declared.Stream.{Stream}
use Rattle.step_streams.specs.Does.{responded, tell_row}
use Rattle.step_switch.proofs.Storing.{row_at}

-- a response goes last in a queue that has room
pub push-packed : (x : S.Response) (q : List S.Response) → room q ≡ true → with_last (pack_responses q) (pack_response x) ≡ pack_responses (push x q)
unfolding room
push-packed x q e =
    let h : length q < 8 = ltb→lt (length q) 8 (rw e tt) in
    push-responses (pack_responses q) x (ordered-responses q (omega arith)) (lt-leb 8 (length q) h)
    ∙ ap (λ (l : List S.Response). pack_responses (push x l)) (held-padded no_response pack_response hold_response response-back queue_length q)

-- an open stream has room
room_at : (opens : List Bool) (qs : List (List S.Response)) (i : ℕ) → length opens ≡ length qs → room_open opens qs ≡ true → get_or opens i false ≡ true → room (get_or qs i []) ≡ true
unfolding room_open
room_at [] qs i n e o = let z : ◌≡◌ {A = ℕ} 0 1 = cc in absurd (omega arith)
room_at (b ∷ os) [] i n e o = absurd (omega arith)
room_at (b ∷ os) (q ∷ qs) zero n e o = go b (room q) (room_open os qs) o e
  where
    go : (b r rs : Bool) → b ≡ true → ((not b || r) && rs) ≡ true → r ≡ true
    go true true rs o e = refl
    go true false rs o e = e
    go false r rs o e = let z : ◌≡◌ {A = ℕ} 0 1 = cc in absurd (omega arith)
room_at (b ∷ os) (q ∷ qs) (suc i) n e o = room_at os qs i (let k : suc (length os) ≡ suc (length qs) = n in omega arith) (go (not b || room q) (room_open os qs) e) o
  where
    go : (a b : Bool) → (a && b) ≡ true → b ≡ true
    go true b e = e
    go false b e = let z : ◌≡◌ {A = ℕ} 0 1 = cc in absurd (omega arith)

-- the responses of the node at place i
tell-at : (k : ℕ) (say : ℕ → S.Response) (opens : List Bool) (qs : List (List S.Response)) (i : ℕ) → length opens ≡ length qs
    → get_or (tell_from k say opens qs) i [] ≡ cond (get_or opens i false) (push (say (k + i)) (get_or qs i [])) (get_or qs i [])
unfolding tell_from
tell-at k say [] qs i n = refl
tell-at k say (o ∷ os) [] i n = absurd (omega arith)
tell-at k say (o ∷ os) (q ∷ qs) zero n = rw (add-zero k)
tell-at k say (o ∷ os) (q ∷ qs) (suc i) n = rw (add-suc k i, ← suc-add k i) (tell-at (suc k) say os qs i (let e : suc (length os) ≡ suc (length qs) = n in omega arith))

abbrev pub with_responses : List (List S.Response) → S.Board → S.Board
with_responses responses w = record {
  opens = w.opens;
  sent = w.sent;
  requests = w.requests;
  responses = responses;
  held = w.held;
  terms = w.terms;
  last = w.last;
}

module _ (say : ℕ → S.Response) (w : S.Board) (n : length w.opens ≡ length w.responses) (roomy : room_open w.opens w.responses ≡ true) where
  row_told : (i : ℕ) (b : Bool) → get_or w.opens i false ≡ b
      → cond b (responded (pack_response (say (i + 1))) (stream_row w i)) (stream_row w i)
      ≡ pack_stream (get_or w.opens i false) (get_or w.sent i 0) (get_or w.requests i []) (cond b (push (say (i + 1)) (get_or w.responses i [])) (get_or w.responses i []))
  row_told i false e = refl
  row_told i true e =
      ap (λ q. record { opened = get_or w.opens i false; sent = (stream_row w i).sent; requests = (stream_row w i).requests; responses = q })
      (push-packed (say (i + 1)) (get_or w.responses i []) (room_at w.opens w.responses i n roomy e))

  pub all_told : (streams : List Stream) → pack_streams w ≡ streams → table most_nodes (tell_row w.opens say streams) ≡ pack_streams (with_responses (tell_all say w.opens w.responses) w)
  unfolding pack_streams
  all_told streams e =
      let new = tell_row w.opens say streams in
      table_of most_nodes (stream_row (with_responses (tell_all say w.opens w.responses) w)) (table most_nodes new) past_stream (table-length most_nodes new) (λ i lt.
      table-get most_nodes new i past_stream lt
      ∙ ap (λ (r : Stream). cond (get_or w.opens i false) (responded (pack_response (say (i + 1))) r) r) (row_at w streams e i lt)
      ∙ row_told i (get_or w.opens i false) refl
      ∙ ap (λ (q : List S.Response). pack_stream (get_or w.opens i false) (get_or w.sent i 0) (get_or w.requests i []) q)
      (ap (λ (k : ℕ). cond (get_or w.opens i false) (push (say k) (get_or w.responses i [])) (get_or w.responses i [])) (omega arith)
      ∙ sym (tell-at 1 say w.opens w.responses i n)))
