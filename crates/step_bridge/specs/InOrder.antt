-- A state in range that is written into structs is in order: what the functions on rows rest on. Assumes nothing.
use Rattle.std.specs.Prelude.{refl, Bool, List, [], ℕ, ◌≤◌, T, length, get_or}
use Rattle.std.proofs.Common.{sym, ◌∙◌, arith}
use Rattle.std.proofs.Math.Path.{ap}
use Rattle.rules.specs.Limits.{most_nodes, most_backups}
use Rattle.rules.specs.State as S
use Rattle.rules.specs.Range.{in_range}
use Rattle.rules.specs.Election.{elected}
use Rattle.rules_laws.specs.InRange.{QueueFits, MastershipFits, ServiceFits, masterless, ruled, LearnedFits, unlearned, knows, CoreFits}
use Rattle.rules_laws.specs.RangeTest.{range-sound}
use Rattle.rules_laws.specs.Lists.{all_get_d, queue-none}
use Rattle.rules_laws.specs.Ids.{fewer-backups}
use Rattle.any_list.specs.Tables.{table-get}
use Rattle.step_parts.specs.Ordered.{OrderedMastership, ordered-mastership, ordered-events, ordered-requests, ordered-responses}
use Rattle.step_state.specs.Hold.{controller_row, stream_row, hold_held, hold_board, pack_controllers, pack_streams, pack_claims, pack_core, represent}
use Rattle.step_state.specs.Order.{OrderedControllers, OrderedBoard, past_controller, past_stream}
use Rattle.step_bridge.specs.Held.{events-back, learned-back, says_back, board-back}

-- ---- there is a place for every backup

module _ (count : ℕ) (few : count ≤ most_nodes) (m : S.Mastership) where
  pub event-short : MastershipFits count m → length m.backups ≤ most_backups
  event-short k = let f = fewer-backups count m k in omega arith

  pub service-short : ServiceFits count m → length m.backups ≤ most_backups
  service-short (masterless a b c) = rw b (omega arith)
  service-short (ruled k) = event-short k

  pub learned-short : LearnedFits count m → length m.backups ≤ most_backups
  learned-short (unlearned e) = rw e (omega arith)
  learned-short (knows k) = event-short k

-- ---- the rows

module _ (n : ℕ) (running : Bool) (c : S.Core) (few : n ≤ most_nodes) (k : CoreFits n running c) where
  abbrev events : List (List S.Mastership)
  events = c.desk.events

  pub events-at : (i : ℕ) → QueueFits (MastershipFits n) (get_or events i [])
  events-at i = all_get_d (QueueFits (MastershipFits n)) events i [] (queue-none (MastershipFits n)) k.desk.events

  pub learned-at : (i : ℕ) → LearnedFits n (get_or c.learned i S.blank)
  learned-at i = all_get_d (LearnedFits n) c.learned i S.blank (unlearned refl) k.learned

  controllers-ordered : OrderedControllers n (pack_controllers events c.learned c.says)
  unfolding pack_controllers
  controllers-ordered = record {
    few = few;
    rows = λ i h. rw (table-get most_nodes (controller_row events c.learned c.says) i past_controller (omega arith)) (record {
      events = ordered-events (get_or events i []) (events-at i).short;
      learned = ordered-mastership (get_or c.learned i S.blank) (learned-short n few (get_or c.learned i S.blank) (learned-at i));
    });
    same = λ i. pack_controllers (events-back n few events c.learned c.says k.desk.size i) (learned-back n few events c.learned c.says k.learned-size i) (says_back n few events c.learned c.says k.says-size i);
  }

  board-ordered : OrderedBoard n (pack_streams c.board) (pack_claims c.board)
  unfolding pack_streams hold_board hold_held
  board-ordered = let w = c.board in record {
    few = few;
    rows = λ i h. rw (table-get most_nodes (stream_row w) i past_stream (omega arith)) (record {
      requests = ordered-requests (get_or w.requests i []) (k.board.streams i).requests-fit.short;
      responses = ordered-responses (get_or w.responses i []) (k.board.streams i).responses-fit.short;
    });
    kept = let back = board-back n running w few k.board in ap (λ (b : S.Board). b.held) back ∙ k.board.held.made ∙ ap (λ (b : S.Board). elected b.held.ids) (sym back);
    streams-same = ap pack_streams (board-back n running w few k.board);
    claims-same = ap pack_claims (board-back n running w few k.board);
  }

-- ---- the state

module _ (t : S.State) (h : T (in_range t)) where
  pub ordered-controllers : OrderedControllers t.count (represent t).core.controllers
  unfolding represent pack_core
  ordered-controllers = let r = range-sound t h in controllers-ordered t.count t.running t.core r.count.upper r.core

  pub ordered-board : OrderedBoard t.count (represent t).core.streams (represent t).core.claims
  unfolding represent pack_core
  ordered-board = let r = range-sound t h in board-ordered t.count t.running t.core r.count.upper r.core

  pub ordered-service : OrderedMastership (represent t).core.service
  unfolding represent pack_core
  ordered-service = let r = range-sound t h in ordered-mastership t.core.desk.service (service-short t.count r.count.upper t.core.desk.service r.core.desk.service)
