-- Handling an update: what the code reads is what the rule reads, and its stores are what the rule writes. Assumes nothing.
use mathlib.Core.Path.{◌≡◌, refl, sym, ap, ap₂, ◌∙◌}
use mathlib.Core.Logic.{◌≢◌}
use mathlib.Core.Bool.{Bool, true, false, not, ◌&&◌}
use mathlib.Core.List.{List, []}
use Prim.Native.Nat.{ℕ, ◌-◌, ◌≤◌, ◌<◌}
use native.Mathlib.Omega.{arith}
use lib.Dec.{leb, eqb}
use lib.ListN.{length, get_or, set, length-set}
use lib.Seq.{get_or-set_same, get_or-set_other, set-get_or}
use borrow.Author.Tests.{eq-eqb, ne_eqb}
use Rattle.rules.specs.Limits.{most_nodes, queue_length}
use Rattle.rules.specs.Codes.{step_done, not_allowed}
use Rattle.rules.specs.State as S
use Rattle.rules.specs.Queues.{push, first, rest, empty, room}
use Rattle.rules.specs.Part.{decide}
use Rattle.rules.specs.Parts.{Told, Telling}
use Rattle.rules.specs.Election.{taken, news, room_open, tell_all}
use Rattle.rules.specs.Rules.{no_request, is_update, changes, asked, held_left, opens_left, responses_left, held_with, close_room, closed, close_rule, update_room, updated, handle_update_rule}
use Rattle.any_list.specs.Arrays.{column, table}
use Rattle.any_list.specs.Columns.{column-at, column-set}
use Rattle.any_list.specs.Queue.{room-held}
use Rattle.step_parts.specs.Hold.{hold_requests, hold_responses, pack_request, pack_requests, pack_response, hold_response, no_response, places}
use Rattle.step_parts.specs.Ordered.{pop-requests}
use Rattle.step_parts.specs.declared.Message.TheVariants as M
use Rattle.step_state.specs.Hold.{hold_held, hold_board, pack_stream, pack_streams, pack_claims, stream_row, open_at, requests_at, responses_at, id_at}
use Rattle.step_state.specs.Order.{past_stream}
use Rattle.step_state.specs.Reads.{answer_of, told_of}
use Rattle.step_state.specs.Stores.{pack_board, store_telling}
use Rattle.step_state.specs.declared.Elected.{Elected}
use Rattle.step_state.specs.declared.Stream.{Stream}
use Rattle.step_state.specs.declared.Claims.{Claims}
use Rattle.step_state.specs.declared.Board.{Board}
use Rattle.step_streams.specs.Asks.{HasHead}
use Rattle.step_streams.specs.Does.{news_of, responded, without_head, able, tell_row, waiting}
use Rattle.step_streams.proofs.Answers.{answer-by, by_tests, clear}
use Rattle.step_streams.proofs.Waiting.{Ready, ready, running-too, message, update-waits, no-update-waits}
use Rattle.step_switch.specs.Asks.{AtBoard, UpdateAt}
use Rattle.step_switch.specs.Does.{collides, with_claim}
use Rattle.step_switch.proofs.Storing.{put, lands, store-row, store-claim, sized, row_at}
use Rattle.step_switch.proofs.Telling.{push-packed, all_told}
use Rattle.step_switch.proofs.Closing.{below, open-at, close-answer}

module _ {count n : ℕ} {streams : List Stream} {claims : Claims} (h : AtBoard count n streams claims) where
  abbrev row : Stream
  row = get_or streams (n - 1) past_stream

  -- ---- what is read

  pub requests-at : get_or (hold_board count streams claims).requests (n - 1) [] ≡ hold_requests row.requests
  unfolding hold_board
  requests-at = column-at requests_at count (n - 1) streams past_stream (below h)

  responses-at : get_or (hold_board count streams claims).responses (n - 1) [] ≡ hold_responses row.responses
  unfolding hold_board
  responses-at = column-at responses_at count (n - 1) streams past_stream (below h)

  pub update-allowed : (running : Bool) → (handle_update_rule n).allowed (told_of count n running streams claims) ≡ (able running row && is_update (message row))
  unfolding handle_update_rule
  update-allowed running = ap₂ (λ (o : Bool) (l : List S.Request). running && o && not (empty l) && is_update (first no_request l).message) (open-at h) requests-at

  -- an update that waits may be handled
  pub update-at : (running : Bool) → waiting running row ≡ M.Update → UpdateAt count n streams claims
  update-at running e = record { at = h; allowed = update-allowed true ∙ running-too running row (is_update (message row)) (update-waits running row e) }

  -- ---- the answer

  pub update-answer : (running q : Bool) → waiting running row ≡ M.Update → (handle_update_rule n).queues_left (told_of count n true streams claims) ≡ q
      → answer_of (decide (handle_update_rule n) (told_of count n running streams claims)) ≡ by_tests true true true q
  unfolding handle_update_rule close_room update_room held_left opens_left responses_left held_with
  update-answer running q e f =
      answer-by (handle_update_rule n) (told_of count n running streams claims) true true true q (update-allowed running ∙ update-waits running row e) refl refl f

  pub no-update : (running : Bool) → (waiting running row ≡ M.Update → ⊥) → answer_of (decide (handle_update_rule n) (told_of count n running streams claims)) ≡ not_allowed
  unfolding handle_update_rule
  no-update running e =
      answer-by (handle_update_rule n) (told_of count n running streams claims) false true true ((handle_update_rule n).queues_left (told_of count n running streams claims)) (update-allowed running ∙ no-update-waits running row e) refl refl refl

  pub done_at : answer_of (decide (handle_update_rule n) (told_of count n true streams claims)) ≡ step_done → UpdateAt count n streams claims
  done_at e = record { at = h; allowed = (clear (handle_update_rule n) (told_of count n true streams claims) e).allowed }

  pub done-roomy : answer_of (decide (handle_update_rule n) (told_of count n true streams claims)) ≡ step_done → (handle_update_rule n).queues_left (told_of count n true streams claims) ≡ true
  done-roomy e = (clear (handle_update_rule n) (told_of count n true streams claims) e).queues_left

-- An update that may be handled waits at the head of n's requests.
module _ {count n : ℕ} {streams : List Stream} {claims : Claims} (u : UpdateAt count n streams claims) where
  abbrev h : AtBoard count n streams claims
  h = u.at

  abbrev v : Told
  v = told_of count n true streams claims

  abbrev w : S.Board
  w = hold_board count streams claims

  abbrev r : Stream
  r = get_or streams (n - 1) past_stream

  lt : n - 1 < count
  lt = below h

  can : Ready true r
  can = ready true r (is_update (message r)) (sym (update-allowed h true) ∙ u.allowed)

  pub has-head : HasHead r
  has-head = record { ordered = h.board.rows (n - 1) lt; some = can.some }

  -- the head is what the rule asks of
  pub head-is : pack_request (first no_request (hold_requests r.requests)) ≡ pack_request (asked v)
  head-is = ap (λ (l : List S.Request). pack_request (first no_request l)) (sym (requests-at h))

  -- the claims with its id and term
  abbrev pub claims_then : Claims
  claims_then = with_claim count n (record { 0 = (asked v).id }) (record { 0 = (asked v).term }) claims

  -- the switch's master changes
  abbrev pub shifts : Bool
  shifts = not (eqb claims.elected.master claims_then.elected.master)

  pub shifts-yes : (e : Elected) → e ≡ claims_then.elected → claims.elected.master ≢ e.master → shifts ≡ true
  shifts-yes e is z = ap not (ne_eqb claims.elected.master claims_then.elected.master (λ q. z (q ∙ ap (λ (x : Elected). x.master) (sym is))))

  pub shifts-no : (e : Elected) → e ≡ claims_then.elected → claims.elected.master ≡ e.master → shifts ≡ false
  shifts-no e is q = ap not (eq-eqb claims.elected.master claims_then.elected.master (q ∙ ap (λ (x : Elected). x.master) is))

  pub collides-is : taken n (asked v).id (column id_at count claims.ids) ≡ collides n v
  unfolding hold_board hold_held
  collides-is = refl

  -- a collision closes the stream
  pub taken-room : collides n v ≡ true → (handle_update_rule n).queues_left v ≡ close_room n v
  unfolding handle_update_rule
  taken-room e = simp e

  pub taken-effect : collides n v ≡ true → (handle_update_rule n).effect v ≡ closed n v
  unfolding handle_update_rule
  taken-effect e = simp e

  pub free-room : collides n v ≡ false → (handle_update_rule n).queues_left v ≡ update_room n v
  unfolding handle_update_rule
  free-room e = simp e

  pub free_effect : collides n v ≡ false → (handle_update_rule n).effect v ≡ updated n v
  unfolding handle_update_rule
  free_effect e = simp e

  pub close-goes : close_room n v ≡ true → answer_of (decide (close_rule n) v) ≡ step_done
  close-goes f = close-answer h true true can.opened f

  -- ---- room

  change-is : (b : Bool) → shifts ≡ b → changes v.held (held_with n v) ≡ b
  unfolding changes held_with hold_board hold_held
  change-is b e = e

  pub room-all : shifts ≡ true → update_room n v ≡ room_open (column open_at count streams) (column responses_at count streams)
  unfolding update_room hold_board
  room-all e = simp (change-is true e)

  pub room-one : shifts ≡ false → update_room n v ≡ room (hold_responses r.responses)
  unfolding update_room
  room-one e = simp (change-is false e) (ap room (responses-at h))

  pub space : room (hold_responses r.responses) ≡ not (leb queue_length r.responses.len)
  space = room-held no_response pack_response hold_response (places r.responses) has-head.ordered.responses

  -- ---- the effect

  -- what is written, but for the responses
  abbrev took : List (List S.Response) → Telling
  took responses = record { is_open = true; sent = v.sent; requests = rest v.requests; responses = responses; id = (asked v).id; term = (asked v).term }

  row_is : r ≡ stream_row w (n - 1)
  row_is = let few : count ≤ 8 = h.board.few in let k = lt in row_at w streams h.board.streams-same (n - 1) (omega arith)

  open_is : get_or w.opens (n - 1) false ≡ true
  open_is = open-at h ∙ can.opened

  without-head-is : without_head r ≡ pack_stream true v.sent (rest v.requests) (get_or w.responses (n - 1) [])
  without-head-is = λ i. record {
    opened = can.opened i;
    sent = (row_is i).sent;
    requests = (pop-requests r.requests has-head.ordered.requests ∙ ap (λ (l : List S.Request). pack_requests (rest l)) (sym (requests-at h))) i;
    responses = (row_is i).responses;
  }

  claims-are : (responses : List (List S.Response)) → claims_then ≡ pack_claims (put n (took responses) w)
  claims-are responses =
      store-claim count n (took responses) streams claims h.board (lands count n (took responses) w (sized count streams claims h.board) lt)

  rows_are : set streams (n - 1) (without_head r) ≡ pack_streams (put n (took w.responses) w)
  rows_are =
      ap₂ (λ (l : List Stream) (x : Stream). set l (n - 1) x) (sym h.board.streams-same) without-head-is
      ∙ store-row n (took w.responses) w (lands count n (took w.responses) w (sized count streams claims h.board) lt) (get_or w.responses (n - 1) []) refl (λ i z. refl)

  opens-stay : set w.opens (n - 1) true ≡ w.opens
  opens-stay = ap (set w.opens (n - 1)) (sym open_is) ∙ set-get_or w.opens (n - 1) false

  opens-then : column open_at count (set streams (n - 1) (without_head r)) ≡ set w.opens (n - 1) true
  unfolding hold_board
  opens-then = column-set open_at count (n - 1) streams (without_head r) ∙ ap (set (column open_at count streams) (n - 1)) can.opened

  roomy : shifts ≡ true → update_room n v ≡ true → room_open (set w.opens (n - 1) true) w.responses ≡ true
  unfolding hold_board
  roomy e f = ap (λ (o : List Bool). room_open o w.responses) opens-stay ∙ sym (room-all e) ∙ f

  -- the master changes, and all are told
  pub updated-all : shifts ≡ true → update_room n v ≡ true
      → (let next = set streams (n - 1) (without_head r) in
      record { streams = table most_nodes (tell_row (column open_at count next) (news_of claims_then.elected) next); claims = claims_then }
      ≡ store_telling n (updated n v) count streams claims)
  unfolding updated held_with store_telling pack_claims hold_board news
  updated-all e f =
      let s = sized count streams claims h.board in
      let next = set streams (n - 1) (without_head r) in
      let after = put n (took w.responses) w in
      let k : length after.opens ≡ length after.responses = length-set w.opens (n - 1) true ∙ s.opens ∙ sym s.responses in
      ap {B = Board} (λ (o : List Bool). record { streams = table most_nodes (tell_row o (news_of claims_then.elected) next); claims = claims_then }) opens-then
      ∙ (λ i. record { streams = all_told (news (held_with n v)) after k (roomy e f) next (sym rows_are) i; claims = claims-are w.responses i })
      ∙ ap (λ (o : List Bool). pack_board (put n (took (tell_all (news (held_with n v)) o w.responses)) w)) opens-stay
      ∙ simp (change-is true e)

  -- the master stays, and only n is told
  pub updated-one : shifts ≡ false → update_room n v ≡ true
      → record { streams = set streams (n - 1) (responded (pack_response (news_of claims_then.elected n)) (without_head r)); claims = claims_then }
      ≡ store_telling n (updated n v) count streams claims
  unfolding updated held_with store_telling hold_board news
  updated-one e f =
      let s = sized count streams claims h.board in
      let q = get_or w.responses (n - 1) [] in
      let pushed = push (news (held_with n v) n) q in
      let responses = set w.responses (n - 1) pushed in
      let b : n - 1 < length w.responses = let k = s.responses in let j = lt in omega arith in
      let space : room q ≡ true = ap room (responses-at h) ∙ sym (room-one e) ∙ f in
      let x : responded (pack_response (news_of claims_then.elected n)) (without_head r) ≡ pack_stream true v.sent (rest v.requests) pushed =
      ap (responded (pack_response (news_of claims_then.elected n))) without-head-is
      ∙ (λ i. record {
        opened = true;
        sent = record { 0 = v.sent };
        requests = pack_requests (rest v.requests);
        responses = push-packed (news (held_with n v) n) q space i;
      }) in
      (λ i. record {
        streams =
            (ap₂ (λ (l : List Stream) (y : Stream). set l (n - 1) y) (sym h.board.streams-same) x
            ∙ store-row n (took responses) w (lands count n (took responses) w s lt) pushed (get_or-set_same w.responses (n - 1) pushed [] b) (λ j z. get_or-set_other w.responses (n - 1) j pushed [] z))
            i;
        claims = claims-are responses i;
      })
      ∙ simp (change-is false e)
