-- Closing a stream: what the code reads is what the rule reads, and its stores are what the rule writes. Assumes nothing.
use mathlib.Core.Path.{◌≡◌, refl, sym, ap, ap₂, ◌∙◌}
use mathlib.Core.Bool.{Bool, true, false}
use mathlib.Core.List.{List, []}
use Prim.Native.Nat.{ℕ, ◌-◌, ◌≤◌, ◌<◌}
use native.Mathlib.Decide.{ℕ_discrete}
use native.Mathlib.Omega.{arith}
use lib.Dec.{eqb}
use lib.ListN.{length, get_or, set, length-set}
use lib.Seq.{get_or-set_same, get_or-set_other}
use Rattle.rules.specs.Limits.{most_nodes}
use Rattle.rules.specs.Codes.{step_done}
use Rattle.rules.specs.State as S
use Rattle.rules.specs.Part.{decide}
use Rattle.rules.specs.Parts.{Told}
use Rattle.rules.specs.Election.{elected, news, room_open}
use Rattle.rules.specs.Rules.{changes, held_left, opens_left, responses_left, close_room, closed, close_rule}
use Rattle.rules_laws.specs.Elections.{close-shifts}
use Rattle.any_list.specs.Arrays.{column, table}
use Rattle.any_list.specs.Columns.{column-at, column-set}
use Rattle.step_parts.specs.Ordered.{ordered-requests, ordered-responses}
use Rattle.step_state.specs.Hold.{hold_held, hold_board, pack_elected, pack_streams, pack_claims, open_at, responses_at, id_at}
use Rattle.step_state.specs.Order.{OrderedStream, past_stream}
use Rattle.step_state.specs.Reads.{answer_of, told_of}
use Rattle.step_state.specs.Stores.{pack_board, closed_stream, store_telling}
use Rattle.step_state.specs.declared.Stream.{Stream}
use Rattle.step_state.specs.declared.Claims.{Claims}
use Rattle.step_state.specs.declared.Board.{Board}
use Rattle.step_streams.specs.Asks.{OrderedRows}
use Rattle.step_streams.specs.Does.{news_of, tell_row}
use Rattle.step_streams.proofs.Answers.{answer-by, by_tests, clear}
use Rattle.step_switch.specs.Asks.{AtClaims, AtBoard}
use Rattle.step_switch.specs.Does.{cleared_at, with_claim}
use Rattle.step_switch.proofs.Storing.{put, shut, lands-shut, blank-back, store-row, store-claim, sized, rows-eight}
use Rattle.step_switch.proofs.Telling.{all_told}

-- The board with node n's stream closed and nobody told.
abbrev pub without : ℕ → S.Board → S.Board
without n w = put n (shut (set w.responses (n - 1) [])) w

ordered-closed : OrderedStream closed_stream
ordered-closed = record { requests = ordered-requests [] (omega arith); responses = ordered-responses [] (omega arith) }

module _ {count n : ℕ} {streams : List Stream} {claims : Claims} (h : AtBoard count n streams claims) where
  abbrev v : Told
  v = told_of count n true streams claims

  abbrev w : S.Board
  w = hold_board count streams claims

  abbrev others : List Stream
  others = set streams (n - 1) closed_stream

  -- the switch's master changes exactly if the stream is the master's
  abbrev pub shifts : Bool
  shifts = eqb claims.elected.master n

  pub below : n - 1 < count
  below = let a = h.from in let b = h.upto in omega arith

  -- ---- what is read

  pub open-at : get_or v.opens (n - 1) false ≡ (get_or streams (n - 1) past_stream).opened
  unfolding hold_board
  open-at = column-at open_at count (n - 1) streams past_stream below

  opens-then : column open_at count others ≡ opens_left n v
  unfolding hold_board opens_left
  opens-then = column-set open_at count (n - 1) streams closed_stream

  responses-then : column responses_at count others ≡ responses_left n v
  unfolding hold_board responses_left
  responses-then = column-set responses_at count (n - 1) streams closed_stream

  pub ordered-others : OrderedRows count others
  ordered-others = record { few = h.board.few; rows = λ i lt. go i lt (ℕ_discrete i (n - 1)) }
    where
      go : (i : ℕ) → i < count → Dec (i ≡ n - 1) → OrderedStream (get_or others i past_stream)
      go i lt (yes e) =
          let few : count ≤ 8 = h.board.few in
          let k = rows-eight _ streams h.board.streams-same in
          rw (e, get_or-set_same streams (n - 1) closed_stream past_stream (omega arith)) ordered-closed
      go i lt (no z) = rw (get_or-set_other streams (n - 1) i closed_stream past_stream z) (h.board.rows i lt)

  -- ---- room

  change-is : (b : Bool) → shifts ≡ b → changes v.held (held_left n v) ≡ b
  unfolding hold_board hold_held held_left
  change-is b e =
      let k = (sized count streams claims h.board).ids in
      let u = h.upto in
      close-shifts v.held h.board.kept n h.from (omega arith) ∙ e

  pub room-quiet : shifts ≡ false → close_room n v ≡ true
  unfolding close_room
  room-quiet e = simp (change-is false e)

  pub room-told : shifts ≡ true → close_room n v ≡ room_open (column open_at count others) (column responses_at count others)
  unfolding close_room
  room-told e = simp (change-is true e) (ap₂ room_open (sym opens-then) (sym responses-then))

  -- ---- the answer

  pub close-answer : (o q : Bool) → (get_or streams (n - 1) past_stream).opened ≡ o → close_room n v ≡ q → answer_of (decide (close_rule n) v) ≡ by_tests o true true q
  unfolding close_rule
  close-answer o q e f = answer-by (close_rule n) v o true true q (open-at ∙ e) refl refl f

  pub close-roomy : answer_of (decide (close_rule n) v) ≡ step_done → close_room n v ≡ true
  unfolding close_rule
  close-roomy e = (clear (close_rule n) v e).queues_left

  -- ---- the effect

  -- whom the switch keeps
  pub kept-is : claims.elected ≡ pack_elected (elected (column id_at count claims.ids))
  unfolding hold_held
  kept-is = ap pack_elected h.board.kept

  pub at-claims : AtClaims count n claims
  at-claims = record { within = record { few = h.board.few; from = h.from; upto = h.upto }; kept = h.board.kept }

  without_is : cleared_at count n streams claims ≡ pack_board (without n w)
  without_is =
      let x = shut (set w.responses (n - 1) []) in
      let l = lands-shut n (set w.responses (n - 1) []) w in
      λ i. record {
        streams = (ap (λ (r : List Stream). set r (n - 1) closed_stream) (sym h.board.streams-same)
            ∙ store-row n x w l [] (blank-back w.responses (n - 1) []) (λ j z. get_or-set_other w.responses (n - 1) j [] [] z)) i;
        claims = store-claim count n x streams claims h.board l i;
      }

  pub closed-quiet : shifts ≡ false → cleared_at count n streams claims ≡ store_telling n (closed n v) count streams claims
  unfolding closed responses_left store_telling
  closed-quiet e = without_is ∙ simp (change-is false e)

  -- the claims that are left
  abbrev pub claims_then : Claims
  claims_then = with_claim count n (record { 0 = 0 }) (record { 0 = 0 }) claims

  pub closed-told : shifts ≡ true → close_room n v ≡ true
      → record { streams = table most_nodes (tell_row (column open_at count others) (news_of claims_then.elected) others); claims = claims_then }
      ≡ store_telling n (closed n v) count streams claims
  unfolding closed held_left opens_left responses_left store_telling pack_claims hold_board news
  closed-told e f =
      let s = sized count streams claims h.board in
      let n₁ : length (without n w).opens ≡ length (without n w).responses = length-set w.opens (n - 1) false ∙ s.opens ∙ sym s.responses ∙ sym (length-set w.responses (n - 1) []) in
      let roomy : room_open (without n w).opens (without n w).responses ≡ true = ap₂ room_open (sym opens-then) (sym responses-then) ∙ sym (room-told e) ∙ f in
      let rows : pack_streams (without n w) ≡ others = ap (λ (x : Board). x.streams) (sym without_is) in
      ap {B = Board} (λ (a : List Bool). record { streams = table most_nodes (tell_row a (news_of claims_then.elected) others); claims = claims_then }) opens-then
      ∙ (λ i. record { streams = all_told (news (held_left n v)) (without n w) n₁ roomy others rows i; claims = (without_is i).claims })
      ∙ simp (change-is true e)
