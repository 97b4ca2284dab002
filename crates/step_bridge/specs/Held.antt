-- A state in range that is written into structs is held by them. Assumes nothing.
use Rattle.std.specs.Prelude.{◌≡◌, refl, Bool, ℕ, ◌≤◌, T, length, get_or}
use Rattle.std.proofs.Common.{sym, ap, ◌∙◌, arith}
use Rattle.std.proofs.Math.Bool.{false}
use mathlib.Core.List.{List, []}
use Rattle.rules.specs.Limits.{most_nodes, queue_length, history_length}
use Rattle.rules.specs.State as S
use Rattle.rules.specs.Range.{in_range}
use Rattle.rules_laws.specs.InRange.{BoardFits, InRange}
use Rattle.rules_laws.specs.RangeTest.{range-sound}
use Rattle.any_list.specs.Arrays.{column, table}
use Rattle.any_list.specs.Padded.{held-padded}
use Rattle.any_list.specs.Tables.{table-column}
use Rattle.step_parts.specs.Hold.{hold_mastership, pack_mastership, no_mastership, hold_request, pack_request, no_request, hold_response, pack_response, no_response, hold_write, pack_write}
use Rattle.step_parts.specs.Ordered.{mastership-back, request-back, response-back}
use Rattle.step_state.specs.Hold.{events_at, learned_at, says_at, open_at, sent_at, requests_at, responses_at, id_at, term_at, controller_row, stream_row, id_row, term_row, pack_controllers, pack_streams, pack_claims, pack_core, pack_history, no_write, hold_held, hold_board, hold_desk, hold_core, hold_history, hold, represent}

-- A column as long as there are nodes, of rows that were made of it.
column-back : {R B : Type 0} (g : R → B) (f : ℕ → R) (l : List B) (d : B) (n : ℕ) → n ≤ most_nodes → length l ≡ n → ((i : ℕ) → g (f i) ≡ get_or l i d) → column g n (table most_nodes f) ≡ l
column-back g f l d n few e h = ap (λ k. column g k (table most_nodes f)) (sym e) ∙ table-column g most_nodes f l d (let z : length l ≡ n = e in omega arith) h

module _ (n : ℕ) (few : n ≤ most_nodes) (events : List (List S.Mastership)) (learned : List S.Mastership) (says : List Bool) where
  pub events-back : length events ≡ n → column events_at n (pack_controllers events learned says) ≡ events
  unfolding pack_controllers
  events-back e = column-back events_at (controller_row events learned says) events [] n few e (λ i. held-padded no_mastership pack_mastership hold_mastership mastership-back queue_length (get_or events i []))

  pub learned-back : length learned ≡ n → column learned_at n (pack_controllers events learned says) ≡ learned
  unfolding pack_controllers
  learned-back e = column-back learned_at (controller_row events learned says) learned S.blank n few e (λ i. mastership-back (get_or learned i S.blank))

  pub says_back : length says ≡ n → column says_at n (pack_controllers events learned says) ≡ says
  unfolding pack_controllers
  says_back e = column-back says_at (controller_row events learned says) says false n few e (λ i. refl)

pub board-back : (n : ℕ) (running : Bool) (w : S.Board) → n ≤ most_nodes → BoardFits n running w → hold_board n (pack_streams w) (pack_claims w) ≡ w
unfolding hold_board hold_held pack_streams pack_claims
board-back n running w few k = λ i. record {
  opens = column-back open_at (stream_row w) w.opens false n few k.opens-size (λ j. refl) i;
  sent = column-back sent_at (stream_row w) w.sent 0 n few k.sent-size (λ j. refl) i;
  requests = column-back requests_at (stream_row w) w.requests [] n few k.requests-size (λ j. held-padded no_request pack_request hold_request request-back queue_length (get_or w.requests j [])) i;
  responses = column-back responses_at (stream_row w) w.responses [] n few k.responses-size (λ j. held-padded no_response pack_response hold_response response-back queue_length (get_or w.responses j [])) i;
  held = record { ids = column-back id_at (id_row w.held.ids) w.held.ids 0 n few k.ids-size (λ j. refl) i; master = w.held.master; largest = w.held.largest };
  terms = column-back term_at (term_row w.terms) w.terms 0 n few k.terms-size (λ j. refl) i;
  last = w.last;
}

back : (t : S.State) → InRange t → hold (represent t) ≡ t
unfolding hold represent hold_core pack_core hold_desk hold_history pack_history
back t r =
    let n = t.count in
    let c = t.core in
    let k = r.core in
    let few : n ≤ most_nodes = r.count.upper in λ i. record {
      count = n;
      running = t.running;
      history = held-padded no_write pack_write hold_write (λ e. refl) history_length t.history i;
      core = record {
        desk = record { service = mastership-back c.desk.service i; events = events-back n few c.desk.events c.learned c.says k.desk.size i };
        learned = learned-back n few c.desk.events c.learned c.says k.learned-size i;
        says = says_back n few c.desk.events c.learned c.says k.says-size i;
        board = board-back n t.running c.board few k.board i;
      };
    }

pub hold-represent : (t : S.State) → T (in_range t) → hold (represent t) ≡ t
hold-represent t h = back t (range-sound t h)
