-- A store to one row of the streams and of the claims is what the rules write of one node. Assumes nothing.
use mathlib.Core.Path.{◌≡◌, refl, sym, ap, ◌∙◌}
use mathlib.Core.Logic.{◌≢◌}
use mathlib.Core.Bool.{true, false}
use mathlib.Core.List.{List, [], ◌∷◌}
use Prim.Native.Nat.{ℕ, zero, suc, ◌-◌, ◌≤◌, ◌<◌}
use native.Mathlib.Omega.{arith}
use lib.ListN.{length, get_or, set}
use lib.Seq.{get_or-set_same, get_or-set_other}
use Rattle.rules.specs.Limits.{most_nodes}
use Rattle.rules.specs.State as S
use Rattle.rules.specs.Election.{elected, holding}
use Rattle.rules.specs.Parts.{Telling, tell_part}
use Rattle.any_list.specs.Columns.{length-column}
use Rattle.any_list.specs.Tables.{table-get, table-set, table-length}
use Rattle.step_state.specs.Hold.{hold_held, hold_board, pack_elected, pack_stream, pack_streams, pack_claims, stream_row, id_row, term_row, open_at, sent_at, requests_at, responses_at, id_at, term_at}
use Rattle.step_state.specs.Order.{OrderedBoard, past_stream}
use Rattle.step_state.specs.declared.Stream.{Stream}
use Rattle.step_state.specs.declared.Claims.{Claims}
use Rattle.step_switch.specs.Does.{with_claim}

-- The board with what the rules write of node n.
abbrev pub put : ℕ → Telling → S.Board → S.Board
put n x w = ((tell_part n).put x (record { running = true; history = []; board = w })).board

-- ---- every column has a row for each node

pub record Sized (count : ℕ) (w : S.Board) : Type 0 where
  pub opens : length w.opens ≡ count
  pub sent : length w.sent ≡ count
  pub requests : length w.requests ≡ count
  pub responses : length w.responses ≡ count
  pub ids : length w.held.ids ≡ count
  pub terms : length w.terms ≡ count

pub rows-eight : (w : S.Board) (streams : List Stream) → pack_streams w ≡ streams → length streams ≡ most_nodes
unfolding pack_streams
rows-eight w streams e = ap length (sym e) ∙ table-length most_nodes (stream_row w)

ids-eight : (w : S.Board) (claims : Claims) → pack_claims w ≡ claims → length claims.ids ≡ most_nodes
unfolding pack_claims
ids-eight w claims e = ap (λ (c : Claims). length c.ids) (sym e) ∙ table-length most_nodes (id_row w.held.ids)

terms-eight : (w : S.Board) (claims : Claims) → pack_claims w ≡ claims → length claims.terms ≡ most_nodes
unfolding pack_claims
terms-eight w claims e = ap (λ (c : Claims). length c.terms) (sym e) ∙ table-length most_nodes (term_row w.terms)

pub sized : (count : ℕ) (streams : List Stream) (claims : Claims) → OrderedBoard count streams claims → Sized count (hold_board count streams claims)
unfolding hold_board hold_held
sized count streams claims h =
    let few : count ≤ 8 = h.few in
    let rows = rows-eight _ streams h.streams-same in
    let ids = ids-eight _ claims h.claims-same in
    let terms = terms-eight _ claims h.claims-same in
    record {
      opens = length-column open_at count streams (omega arith);
      sent = length-column sent_at count streams (omega arith);
      requests = length-column requests_at count streams (omega arith);
      responses = length-column responses_at count streams (omega arith);
      ids = length-column id_at count claims.ids (omega arith);
      terms = length-column term_at count claims.terms (omega arith);
    }

-- a row of the streams that hold a board
pub row_at : (w : S.Board) (streams : List Stream) → pack_streams w ≡ streams → (i : ℕ) → i < most_nodes → get_or streams i past_stream ≡ stream_row w i
unfolding pack_streams
row_at w streams e i h = ap (λ (l : List Stream). get_or l i past_stream) (sym e) ∙ table-get most_nodes (stream_row w) i past_stream h

-- ---- one row anew

-- a blank that is stored is read back, even past the end
pub blank-back : {A : Type 0} (l : List A) (i : ℕ) (d : A) → get_or (set l i d) i d ≡ d
blank-back [] i d = refl
blank-back (x ∷ l) zero d = refl
blank-back (x ∷ l) (suc i) d = blank-back l i d

-- what is written of node n is read back
pub record Lands (n : ℕ) (x : Telling) (w : S.Board) : Type 0 where
  pub opens : get_or (set w.opens (n - 1) x.is_open) (n - 1) false ≡ x.is_open
  pub sent : get_or (set w.sent (n - 1) x.sent) (n - 1) 0 ≡ x.sent
  pub requests : get_or (set w.requests (n - 1) x.requests) (n - 1) [] ≡ x.requests
  pub ids : get_or (set w.held.ids (n - 1) x.id) (n - 1) 0 ≡ x.id
  pub terms : get_or (set w.terms (n - 1) x.term) (n - 1) 0 ≡ x.term

pub lands : (count n : ℕ) (x : Telling) (w : S.Board) → Sized count w → n - 1 < count → Lands n x w
lands count n x w s h =
    let a = s.opens in
    let b = s.sent in
    let q = s.requests in
    let i = s.ids in
    let t = s.terms in
    record {
      opens = get_or-set_same w.opens (n - 1) x.is_open false (omega arith);
      sent = get_or-set_same w.sent (n - 1) x.sent 0 (omega arith);
      requests = get_or-set_same w.requests (n - 1) x.requests [] (omega arith);
      ids = get_or-set_same w.held.ids (n - 1) x.id 0 (omega arith);
      terms = get_or-set_same w.terms (n - 1) x.term 0 (omega arith);
    }

-- a closed stream, beside these responses
abbrev pub shut : List (List S.Response) → Telling
shut responses = record { is_open = false; sent = 0; requests = []; responses = responses; id = 0; term = 0 }

pub lands-shut : (n : ℕ) (responses : List (List S.Response)) (w : S.Board) → Lands n (shut responses) w
lands-shut n responses w = record {
  opens = blank-back w.opens (n - 1) false;
  sent = blank-back w.sent (n - 1) 0;
  requests = blank-back w.requests (n - 1) [];
  ids = blank-back w.held.ids (n - 1) 0;
  terms = blank-back w.terms (n - 1) 0;
}

module _ (n : ℕ) (x : Telling) (w : S.Board) (l : Lands n x w) where
  pub store-row : (d : List S.Response) → get_or x.responses (n - 1) [] ≡ d → ((i : ℕ) → i ≢ n - 1 → get_or x.responses i [] ≡ get_or w.responses i [])
      → set (pack_streams w) (n - 1) (pack_stream x.is_open x.sent x.requests d) ≡ pack_streams (put n x w)
  unfolding pack_streams
  store-row d e others =
      table-set most_nodes (stream_row w) (stream_row (put n x w)) (n - 1) (pack_stream x.is_open x.sent x.requests d)
      (rw (l.opens, l.sent, l.requests, e))
      (λ i z. rw (get_or-set_other w.opens (n - 1) i x.is_open false z, get_or-set_other w.sent (n - 1) i x.sent 0 z, get_or-set_other w.requests (n - 1) i x.requests [] z, others i z))

-- the claims of node n, stored beside whom the ids then elect
pub store-claim : (count n : ℕ) (x : Telling) (streams : List Stream) (claims : Claims) → OrderedBoard count streams claims → Lands n x (hold_board count streams claims)
    → with_claim count n (record { 0 = x.id }) (record { 0 = x.term }) claims ≡ pack_claims (put n x (hold_board count streams claims))
unfolding pack_claims hold_held hold_board holding elected
store-claim count n x streams claims h l =
    let w = hold_board count streams claims in
    let ids = ap (λ (c : Claims). set c.ids (n - 1) (record { 0 = x.id })) (sym h.claims-same)
    ∙ table-set most_nodes (id_row w.held.ids) (id_row (put n x w).held.ids) (n - 1) (record { 0 = x.id }) (rw l.ids) (λ i z. rw (get_or-set_other w.held.ids (n - 1) i x.id 0 z)) in
    let terms = ap (λ (c : Claims). set c.terms (n - 1) (record { 0 = x.term })) (sym h.claims-same)
    ∙ table-set most_nodes (term_row w.terms) (term_row (put n x w).terms) (n - 1) (record { 0 = x.term }) (rw l.terms) (λ i z. rw (get_or-set_other w.terms (n - 1) i x.term 0 z)) in
    λ i. record { ids = ids i; terms = terms i; elected = pack_elected (holding n x.id (hold_held count claims)); last = claims.last }
