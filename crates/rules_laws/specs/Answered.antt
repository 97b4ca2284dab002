-- When each answer is given: the table of the answer codes, as one definition. `Answers` shows that a step answers so, and never otherwise. Assumes nothing.
use Rattle.std.specs.Prelude.{◌≡◌, Bool, not, ℕ, T}
use Rattle.std.proofs.Math.Option.{none, some}
use Rattle.rules.specs.Codes.{step_done, out_of_range, unknown_kind, wrong_node, not_allowed, term_limit, history_full, queue_full}
use Rattle.rules.specs.State.{State}
use Rattle.rules.specs.Range.{in_range}
use Rattle.rules.specs.Part.{Rule}
use Rattle.rules.specs.Parts.{Reads, part}
use Rattle.rules.specs.Rules.{Kind, class_of, rule}
use Rattle.rules.specs.Step.{Event, kind_of, called}

-- What the rule of kind k at node n reads of the state.
abbrev pub sees : (k : Kind) → ℕ → State → Reads (class_of k)
sees k n s = (part (class_of k) n).get s

-- The state with the effect of kind k at node n.
abbrev pub after : Kind → ℕ → State → State
after k n s = (part (class_of k) n).put ((rule k n).effect (sees k n s)) s

-- The state is in range, the kind of the event is k, and its node is one that k calls for.
pub record Reaches (e : Event) (s : State) (k : Kind) : Type 0 where
  pub in-range : T (in_range s)
  pub kind : kind_of e.kind ≡ some k
  pub node : T (called (class_of k) s.count e.node)

-- Every test of a rule holds, where this is what it reads.
pub record Passes {R W : Type 0} (r : Rule R W) (v : R) : Type 0 where
  pub allowed : T (r.allowed v)
  pub term : T (r.term_left v)
  pub history : T (r.history_left v)
  pub queues : T (r.queues_left v)

-- The four tests of the rule of kind k, at the event's node.
module _ (e : Event) (s : State) (k : Kind) where
  abbrev pub allows : Bool
  allows = (rule k e.node).allowed (sees k e.node s)

  abbrev pub term_left : Bool
  term_left = (rule k e.node).term_left (sees k e.node s)

  abbrev pub history_left : Bool
  history_left = (rule k e.node).history_left (sees k e.node s)

  abbrev pub queues_left : Bool
  queues_left = (rule k e.node).queues_left (sees k e.node s)

pub data Answered (e : Event) (s : State) : ℕ → Type 0 where
  -- 0: allowed, and there is room for the term, in the history and in the queues.
  step-done : (k : Kind) → Reaches e s k → T (allows e s k) → T (term_left e s k) → T (history_left e s k) → T (queues_left e s k) → Answered e s step_done
  -- 1: the state is not in range.
  out-of-range : T (not (in_range s)) → Answered e s out_of_range
  -- 2: in range, and no such kind.
  unknown-kind : T (in_range s) → kind_of e.kind ≡ none → Answered e s unknown_kind
  -- 3: in range, the kind exists, and does not call for the node.
  wrong-node : (k : Kind) → T (in_range s) → kind_of e.kind ≡ some k → T (not (called (class_of k) s.count e.node)) → Answered e s wrong_node
  -- 4: all these, and the rule does not allow the step.
  not-allowed : (k : Kind) → Reaches e s k → T (not (allows e s k)) → Answered e s not_allowed
  -- 5: allowed, and the term would pass the top.
  term-limit : (k : Kind) → Reaches e s k → T (allows e s k) → T (not (term_left e s k)) → Answered e s term_limit
  -- 6: the write would be accepted, and the history is full.
  history-full : (k : Kind) → Reaches e s k → T (allows e s k) → T (term_left e s k) → T (not (history_left e s k)) → Answered e s history_full
  -- 7: a queue that the step appends to is full.
  queue-full : (k : Kind) → Reaches e s k → T (allows e s k) → T (term_left e s k) → T (history_left e s k) → T (not (queues_left e s k)) → Answered e s queue_full
