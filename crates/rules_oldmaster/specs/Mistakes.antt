-- What each safeguard of the switch is for: without it, steps from fresh let a write of term 1 in behind one of term 2. Computed. Assumes nothing.
use Rattle.std.specs.Prelude.{◌≡◌, refl, true, cond, List, [], ◌∷◌, ◌++◌, ℕ, ◌≤◌, T, eqb}
use Rattle.std.proofs.Common.{arith}
use Rattle.rules.specs.State.{Write, State}
use Rattle.rules.specs.Range.{in_range}
use Rattle.rules.specs.Election.{elected}
use Rattle.rules.specs.Parts.{with_core, with_board}
use Rattle.rules.specs.Step.{Event, of_state, fresh}
use Rattle.rules_laws.specs.Computed.{computed}
use Rattle.rules_cases.specs.Names.{Join, Leave, Learn, SendUpdate, ReceiveUpdate, SendWrite, Connect, Close, HandleUpdate, HandleWrite, Shutdown, Startup, by}
use Rattle.rules_oldmaster.specs.KeptOut.{history_after, NeverFalls}

-- ---- the mistakes

-- The state that a step leaves. It is asked of states out of range too.
abbrev Stepping : Type 0
Stepping = Event → State → State

-- By the rules.
abbrev properly : Stepping
properly e s = (of_state true e s).state

-- The state with these ids and this last accepted term.
abbrev having : List ℕ → ℕ → State → State
having ids last s = let w = s.core.board in with_core (with_board (record {
  opens = w.opens;
  sent = w.sent;
  requests = w.requests;
  responses = w.responses;
  held = elected ids;
  terms = w.terms;
  last = last;
}) s.core) s

-- A write is judged by its id alone: there is no last accepted term to test.
abbrev by_id_alone : Stepping
by_id_alone e s = properly e (having s.core.board.held.ids 0 s)

-- An accepted write does not raise the last accepted term.
abbrev not_raised : Stepping
not_raised e s = let t = properly e s in having t.core.board.held.ids s.core.board.last t

-- A shutdown forgets it.
abbrev forgotten : Stepping
forgotten e s = let t = properly e s in cond (eqb e.kind 12) (having t.core.board.held.ids 0 t) t

-- A closed stream's id stays.
abbrev id_stays : Stepping
id_stays e s = let t = properly e s in cond (eqb e.kind 9) (having s.core.board.held.ids t.core.board.last t) t

-- ---- the steps, of two nodes

-- Node 1 is master of term 1, and the switch's master; then node 2 of term 2, and the switch's.
abbrev replaced : List Event
replaced =
    Join 1 ∷ Join 2 ∷ Learn 1 ∷ Learn 1 ∷ Connect 1 ∷ SendUpdate 1 ∷ HandleUpdate 1 ∷ ReceiveUpdate 1
    ∷ Leave 1 ∷ Learn 2 ∷ Learn 2 ∷ Learn 2 ∷ Connect 2 ∷ SendUpdate 2 ∷ HandleUpdate 2 ∷ ReceiveUpdate 2 ∷ []

abbrev writes : ℕ → List Event
writes n = SendWrite n ∷ HandleWrite n ∷ []

-- The switch stops and starts, and node 1, which has not heard of term 2, comes back.
abbrev restarted : List Event
restarted = Shutdown 0 ∷ Startup 0 ∷ Connect 1 ∷ SendUpdate 1 ∷ HandleUpdate 1 ∷ []

abbrev after_close : List Event
after_close = replaced ++ writes 2 ++ (Close 2 ∷ []) ++ writes 1

abbrev after_restart : List Event
after_restart = replaced ++ writes 2 ++ restarted ++ writes 1

abbrev after_both : List Event
after_both = replaced ++ (Close 2 ∷ Connect 2 ∷ []) ++ writes 2 ++ restarted ++ writes 1

-- ---- what comes of them

abbrev walked : Stepping → State → List Event → State
walked f s [] = s
walked f s (e ∷ es) = walked f (f e s) es

abbrev history_by : Stepping → List Event → List Write
history_by f es = (walked f (fresh 2) es).history

-- Node 1's write of term 1 behind node 2's of term 2.
abbrev backwards : List Write
backwards = by 2 2 ∷ by 1 1 ∷ []

pub record Mistaken : Type 0 where
  pub by-id-alone : history_by by_id_alone after_close ≡ backwards
  pub not-raised : history_by not_raised after_close ≡ backwards
  pub forgotten-at-shutdown : history_by forgotten after_restart ≡ backwards
  pub id-stays : history_by id_stays after_both ≡ backwards
  -- That is no history as claimed.
  pub it-falls : NeverFalls backwards → ⊥

-- By the rules, one of the two writes is denied.
pub record Proper : Type 0 where
  pub closed : history_after 2 after_close ≡ by 2 2 ∷ []
  pub restarted : history_after 2 after_restart ≡ by 2 2 ∷ []
  pub both : history_after 2 after_both ≡ by 1 1 ∷ []

pub mistaken : Mistaken
unfolding computed
mistaken = record {
  by-id-alone = refl;
  not-raised = refl;
  forgotten-at-shutdown = refl;
  id-stays = refl;
  it-falls = λ h. let u : 2 ≤ 1 = h.0.0 in omega arith;
}

pub proper : Proper
unfolding computed
proper = record { closed = refl; restarted = refl; both = refl }

-- A state that is merely in range may have that history.
pub in-range-only : T (in_range (record { count = 2; running = true; history = backwards; core = (fresh 2).core }))
unfolding computed
in-range-only = tt
