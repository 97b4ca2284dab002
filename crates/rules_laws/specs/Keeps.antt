-- Every rule keeps a state in range. Assumes nothing.
use Rattle.std.specs.Prelude.{refl, Bool, false, not, List, [], ◌++◌, ℕ, ◌-◌, ◌≤◌, ◌<◌, length, get_or, set, T}
use Rattle.std.proofs.Common.{◌∙◌, arith, length-set, length-append}
use Rattle.std.proofs.lemmas.List.{set-get_or}
use Rattle.rules.specs.Limits.{history_length}
use Rattle.rules.specs.State.{Write, Desk, Board, Core, State, blank}
use Rattle.rules.specs.Range.{within}
use Rattle.rules.specs.Election.{holding}
use Rattle.rules.specs.Parts.{with_core, with_board, Inbox, Sent, Received, Telling, Serving, Power, service_part, learn_part, send_part, receive_part, on_device, tell_part, serve_part, power_part, part}
use Rattle.rules.specs.Rules.{connect_rule, shutdown_rule, startup_rule, Kind, class_of, rule, join, leave, learns, send_update, receive_update, send_write, receive_write, connect, close, handle_update, handle_write, shutdown, startup}
use Rattle.rules.specs.Step.{called, act}
use Rattle.rules_laws.specs.All.{All}
use Rattle.rules_laws.specs.InRange.{Within, QueueFits, MastershipFits, LearnedFits, unlearned, DeskFits, BoardFits, WriteFits, CoreFits, InRange}
use Rattle.rules_laws.specs.Tests.{◌&◌, as-is, is-yes, is_within}
use Rattle.rules_laws.specs.Lists.{all_append, all_set, all_get_d, queue-none}
use Rattle.rules_laws.specs.Answered.{Passes, sees, after}
use Rattle.rules_laws.specs.Decide.{via-is}
use Rattle.rules_laws.specs.Boards.{own-queue, responses-fit, Anew, rewritten-fits, open-fits, opened-fits}
use Rattle.rules_laws.specs.KeepsService.{join-fits, leave_fits}
use Rattle.rules_laws.specs.KeepsNode.{InboxFits, learn-fits, SentFits, send-update-fits, send-write-fits, ReceivedFits, receive-update-fits, receive-write-fits}
use Rattle.rules_laws.specs.KeepsTelling.{close-fits, handle-update-fits}
use Rattle.rules_laws.specs.KeepsSwitch.{ServingFits, handle-write-fits, cleared-fits, started-fits}

-- ---- what a class writes, put into a state in range

module _ {s : State} (r : InRange s) where
  core-put : (c : Core) → CoreFits s.count s.running c → InRange (with_core c s)
  core-put c k = record { count = r.count; core = k; history-size = r.history-size; history = r.history }

  device-put : (running : Bool) (history : List Write) (w : Board) → BoardFits s.count running w → length history ≤ history_length → All (WriteFits s.count) history
      → InRange (record { count = s.count; running = running; history = history; core = with_board w s.core })
  device-put running history w k size fits = let c = r.core in record {
    count = r.count;
    core = record { desk = c.desk; learned-size = c.learned-size; learned = c.learned; says-size = c.says-size; board = k };
    history-size = size;
    history = fits;
  }

  service-put : (d : Desk) → DeskFits s.count d → InRange (service_part.put d s)
  service-put d k = let c = r.core in core-put _ (record { desk = k; learned-size = c.learned-size; learned = c.learned; says-size = c.says-size; board = c.board })

  learn-put : (n : ℕ) (v : Inbox) → InboxFits s.count v → InRange ((learn_part n).put v s)
  learn-put n v k = let c = r.core in core-put _ (record {
    desk = record {
      size = length-set s.core.desk.events (n - 1) v.events ∙ c.desk.size;
      service = c.desk.service;
      events = all_set (QueueFits (MastershipFits s.count)) s.core.desk.events (n - 1) v.events k.events c.desk.events;
    };
    learned-size = length-set s.core.learned (n - 1) v.learned ∙ c.learned-size;
    learned = all_set (LearnedFits s.count) s.core.learned (n - 1) v.learned k.learned c.learned;
    says-size = c.says-size;
    board = c.board;
  })

  power-put : (v : Power) → BoardFits s.count v.running v.board → InRange ((on_device power_part).put v s)
  power-put v k = device-put v.running s.history v.board k r.history-size r.history

  module _ (n : ℕ) (called : T (within 1 s.count n)) where
    abbrev opened : Bool
    opened = get_or s.core.board.opens (n - 1) false

    node : Within 1 s.count n
    node = (is_within 1 s.count n).to called

    place : n - 1 < s.count
    place = let low : 1 ≤ n = node.lower in let high : n ≤ s.count = node.upper in omega arith

    -- The board anew, and nothing else.
    board-put : (w : Board) → BoardFits s.count s.running w → InRange (with_core (with_board w s.core) s)
    board-put w k = device-put s.running s.history w k r.history-size r.history

    send-put : (v : Sent) → SentFits opened v → InRange ((send_part n).put v s)
    send-put v k = let w = r.core.board in board-put _
        (open-fits w n place v.sent v.requests s.core.board.responses s.core.board.last
        k.opened k.sent k.requests (responses-fit w) w.last)

    receive-put : (v : Received) → ReceivedFits opened v → InRange ((receive_part n).put v s)
    receive-put v k = let c = r.core in let w = c.board in core-put _ (record {
      desk = c.desk;
      learned-size = c.learned-size;
      learned = c.learned;
      says-size = length-set s.core.says (n - 1) v.says ∙ c.says-size;
      board = simp set-get_or at (open-fits w n place
          (get_or s.core.board.sent (n - 1) 0) (get_or s.core.board.requests (n - 1) []) (set s.core.board.responses (n - 1) v.responses) s.core.board.last
          k.opened (w.streams (n - 1)).sent-high (w.streams (n - 1)).requests-fit
          (own-queue (n - 1) k.opened k.responses (responses-fit w)) w.last);
    })

    tell-put : (v : Telling) → Anew s.count s.running s.core.board n v (holding n v.id s.core.board.held) → InRange ((on_device (tell_part n)).put v s)
    tell-put v k = let w = r.core.board in board-put _ (rewritten-fits w n place v _ s.core.board.last k w.last)

    serve-put : (v : Serving) → ServingFits s.count (length s.history) opened v → InRange ((on_device (serve_part n)).put v s)
    serve-put v k = let w = r.core.board in device-put s.running (s.history ++ v.accepted) _
        (simp set-get_or at (open-fits w n place
        (get_or s.core.board.sent (n - 1) 0) v.requests (set s.core.board.responses (n - 1) v.responses) v.last
        k.opened (w.streams (n - 1)).sent-high k.requests
        (own-queue (n - 1) k.opened k.responses (responses-fit w)) k.last))
        (rw (length-append s.history v.accepted) k.size) (all_append (WriteFits s.count) s.history v.accepted r.history k.accepted)

    learned-at : LearnedFits s.count (get_or s.core.learned (n - 1) blank)
    learned-at = all_get_d (LearnedFits s.count) s.core.learned (n - 1) blank (unlearned refl) r.core.learned

    events-at : QueueFits (MastershipFits s.count) (get_or s.core.desk.events (n - 1) [])
    events-at = all_get_d (QueueFits (MastershipFits s.count)) s.core.desk.events (n - 1) [] (queue-none (MastershipFits s.count)) r.core.desk.events

-- ---- every rule

-- What a passing rule puts into a state in range is in range again.
pub after-fits : (k : Kind) (n : ℕ) (s : State) → InRange s → T (called (class_of k) s.count n)
    → Passes (rule k n) (sees k n s) → InRange (after k n s)
unfolding connect_rule shutdown_rule startup_rule
after-fits join n s r c p = service-put r _ (join-fits s.count n s.core.desk (node r n c) r.core.desk p)
after-fits leave n s r c p = service-put r _ (leave_fits s.count n s.core.desk r.core.desk p)
after-fits learns n s r c p = learn-put r n _ (learn-fits s.count (sees learns n s) (events-at r n c) p)
after-fits send_update n s r c p = let y = r.core.board.streams (n - 1) in
    send-put r n c _ (send-update-fits n (sees send_update n s) r.count (learned-at r n c) y.sent-high y.requests-fit p)
after-fits receive_update n s r c p = receive-put r n c _ (receive-update-fits (sees receive_update n s) (r.core.board.streams (n - 1)).responses-fit n p)
after-fits send_write n s r c p = let y = r.core.board.streams (n - 1) in
    send-put r n c _ (send-write-fits n (sees send_write n s) r.count (learned-at r n c) y.sent-high y.requests-fit p)
after-fits receive_write n s r c p = receive-put r n c _ (receive-write-fits (sees receive_write n s) (r.core.board.streams (n - 1)).responses-fit p)
after-fits connect n s r c p =
    board-put r n c _ (opened-fits r.core.board n (place r n c) ((is-yes s.running & as-is (not (opened r n c))).to p.allowed).0)
after-fits close n s r c p = tell-put r n c _ (close-fits r.core.board n (place r n c) p)
after-fits handle_update n s r c p = tell-put r n c _ (handle-update-fits r.core.board n (place r n c) p)
after-fits handle_write n s r c p = let y = r.core.board.streams (n - 1) in
    serve-put r n c _ (handle-write-fits s.count n (node r n c) (sees handle_write n s) y.requests-fit y.responses-fit y.term-high r.core.board.last r.history-size p)
after-fits shutdown n s r c p = power-put r _ (cleared-fits false r.core.board)
after-fits startup n s r c p = power-put r _ (started-fits r.core.board)

pub keeps : (k : Kind) (n : ℕ) (s : State) → InRange s → T (called (class_of k) s.count n) → InRange (act k n s).state
keeps k n s r c = via-is (λ x. InRange x.state) (part (class_of k) n) (rule k n) s (λ a d. r) (after-fits k n s r c)
