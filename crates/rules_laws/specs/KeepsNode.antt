-- What a node writes by learning, sending and receiving is in range. Assumes nothing.
use Rattle.std.specs.Prelude.{◌≡◌, Bool, true, not, ◌&&◌, ℕ, ◌≤◌, ◌<◌, T}
use Rattle.std.proofs.Common.{ap, arith}
use Rattle.rules.specs.Limits.{most_nodes, top_term}
use Rattle.rules.specs.State.{Mastership, blank}
use Rattle.rules.specs.Queues.{first, empty}
use Rattle.rules.specs.Ids.{named}
use Rattle.rules.specs.Parts.{Inbox, Sender, Sent, Receiver, Received}
use Rattle.rules.specs.Rules.{learn_rule, send_update_rule, send_write_rule, receive_update_rule, receive_write_rule}
use Rattle.rules_laws.specs.InRange.{Within, QueueFits, MastershipFits, LearnedFits, unlearned, knows, RequestFits, ResponseFits}
use Rattle.rules_laws.specs.Tests.{◌&◌, as-is, is-yes, is_lt, is_le, is_eq}
use Rattle.rules_laws.specs.Lists.{queue-rest, queue-first, queue-push}
use Rattle.rules_laws.specs.Ids.{id-within, asked-within}
use Rattle.rules_laws.specs.Answered.{Passes}

-- ---- 3 Learn

pub record InboxFits (count : ℕ) (v : Inbox) : Type 0 where
  pub events : QueueFits (MastershipFits count) v.events
  pub learned : LearnedFits count v.learned

pub learn-fits : (count : ℕ) (v : Inbox) → QueueFits (MastershipFits count) v.events → Passes learn_rule v → InboxFits count (learn_rule.effect v)
unfolding learn_rule
learn-fits count v h p = record {
  events = queue-rest (MastershipFits count) v.events h;
  learned = knows (queue-first (MastershipFits count) blank v.events ((as-is (not (empty v.events)) & is_le v.learned.term (first blank v.events).term).to p.allowed).0 h);
}

-- ---- 4 and 6, Send: the stream is open

pub record SentFits (is_open : Bool) (v : Sent) : Type 0 where
  pub opened : is_open ≡ true
  pub sent : v.sent ≤ top_term
  pub requests : QueueFits RequestFits v.requests

-- Who has a term above 0 has learned a mastership.
known : (count : ℕ) (m : Mastership) → LearnedFits count m → 0 < m.term → MastershipFits count m
known count m (unlearned e) t = let z : m.term ≡ 0 = ap (λ x. x.term) e in absurd (omega arith)
known count m (knows k) t = k

module _ (n : ℕ) (v : Sender) (count : Within 1 most_nodes v.count) (learned : LearnedFits v.count v.learned) (sent : v.sent ≤ top_term)
    (requests : QueueFits RequestFits v.requests) where
  pub send-update-fits : Passes (send_update_rule n) v → SentFits v.is_open ((send_update_rule n).effect v)
  unfolding send_update_rule
  send-update-fits p =
      let m = v.learned in
      let a = (is-yes v.is_open & is_lt 0 m.term & is_lt v.sent m.term & as-is (named n m)).to p.allowed in
      let k = known v.count m learned a.0.0.1 in
      record {
        opened = a.0.0.0;
        sent = k.term.upper;
        requests = queue-push RequestFits _ v.requests (record { id = asked-within v.count n m count.upper k a.1; term = k.term }) p.queues requests;
      }

  pub send-write-fits : Passes (send_write_rule n) v → SentFits v.is_open ((send_write_rule n).effect v)
  unfolding send_write_rule
  send-write-fits p =
      let m = v.learned in
      let a = (is-yes v.is_open & is_lt 0 m.term & is_eq m.master n & as-is v.says).to p.allowed in
      let k = known v.count m learned a.0.0.1 in
      record {
        opened = a.0.0.0;
        sent = sent;
        requests = queue-push RequestFits _ v.requests (record { id = id-within v.count m.term 0 count.upper k.term count.lower; term = k.term }) p.queues requests;
      }

-- ---- 5 and 7, Receive: the stream is open

pub record ReceivedFits (is_open : Bool) (v : Received) : Type 0 where
  pub opened : is_open ≡ true
  pub responses : QueueFits ResponseFits v.responses

module _ (v : Receiver) (h : QueueFits ResponseFits v.responses) where
  -- The stream is open, and a response of the kind is there.
  opened : (b : Bool) → T (v.is_open && not (empty v.responses) && b) → v.is_open ≡ true
  opened b a = ((is-yes v.is_open & as-is (not (empty v.responses)) & as-is b).to a).0.0

  pub receive-update-fits : (n : ℕ) → Passes (receive_update_rule n) v → ReceivedFits v.is_open ((receive_update_rule n).effect v)
  unfolding receive_update_rule
  receive-update-fits n p = record { opened = opened _ p.allowed; responses = queue-rest ResponseFits v.responses h }

  pub receive-write-fits : Passes receive_write_rule v → ReceivedFits v.is_open (receive_write_rule.effect v)
  unfolding receive_write_rule
  receive-write-fits p = record { opened = opened _ p.allowed; responses = queue-rest ResponseFits v.responses h }
