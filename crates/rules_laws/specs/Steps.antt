-- What every step, and every run, does to a state: it keeps it in range, keeps the node count, and only adds to the history. Assumes nothing.
use Rattle.std.specs.Prelude.{◌≡◌, refl, ◌≢◌, Bool, true, false, cond, List, [], ◌∷◌, ◌++◌, ℕ, suc, ◌≤◌, length, T}
use Rattle.std.proofs.Common.{sym, ap, ◌∙◌, append-nil, append_assoc, arith, length-append}
use Rattle.std.proofs.lemmas.List.{length-replicate}
use Rattle.rules.specs.Limits.{most_nodes}
use Rattle.rules.specs.State.{State, Write, blank}
use Rattle.rules.specs.Range.{in_range}
use Rattle.rules.specs.Parts.{Class, service, learn, send, receive, link, tell, serve, power, Writes, part}
use Rattle.rules.specs.Rules.{accepts, handle_write_rule, Kind, class_of, rule, join, leave, learns, send_update, receive_update, send_write, receive_write, connect, close, handle_update, handle_write, shutdown, startup}
use Rattle.rules.specs.Step.{Event, step, fresh}
use Rattle.rules.specs.Run.{run}
use Rattle.rules_laws.specs.InRange.{LearnedFits, unlearned, masterless, QueueFits, MastershipFits}
use Rattle.rules_laws.specs.RangeTest.{range-sound, range-complete}
use Rattle.rules_laws.specs.Lists.{all_replicate, queue-none}
use Rattle.rules_laws.specs.KeepsSwitch.{no-board-fits}
use Rattle.rules_laws.specs.Keeps.{after-fits}
use Rattle.rules_laws.specs.Answered.{after, sees}
use Rattle.rules_laws.specs.Answers.{step_is}

-- ---- a step

pub step_keeps : (e : Event) (s : State) → T (in_range s) → T (in_range (step e s).state)
step_keeps e s r = step_is (λ x. T (in_range x.state)) e s (λ a h. r)
    (λ k c p. range-complete (after k e.node s) (after-fits k e.node s (range-sound s r) c.node p))

pub step_count : (e : Event) (s : State) → (step e s).state.count ≡ s.count
step_count e s = step_is (λ x. x.state.count ≡ s.count) e s (λ a h. refl) (λ k c p. put_count (class_of k) e.node ((rule k e.node).effect (sees k e.node s)))
  where
    put_count : (c : Class) (n : ℕ) (w : Writes c) → ((part c n).put w s).count ≡ s.count
    put_count service n w = refl
    put_count learn n w = refl
    put_count send n w = refl
    put_count receive n w = refl
    put_count link n w = refl
    put_count tell n w = refl
    put_count serve n w = refl
    put_count power n w = refl

pub refused-leaves : (e : Event) (s : State) → (step e s).answer ≢ 0 → (step e s).state ≡ s
refused-leaves e s = step_is (λ x. x.answer ≢ 0 → x.state ≡ s) e s (λ a h z. refl) (λ k c p z. absurd (z refl))

-- The new history is the old one with at most `most` writes behind it.
pub record Grows (most : ℕ) (old new : List Write) : Type 0 where
  pub written : List Write
  pub few : length written ≤ most
  pub behind : new ≡ old ++ written

same : (most : ℕ) (l : List Write) → Grows most l l
same most l = record { written = []; few = omega arith; behind = sym (append-nil l) }

pub history-grows : (e : Event) (s : State) → Grows 1 s.history (step e s).state.history
unfolding handle_write_rule
history-grows e s = step_is (λ x. Grows 1 s.history x.state.history) e s (λ a h. same 1 s.history) (λ k c p. grown k e.node)
  where
    one : (b : Bool) (x : Write) → length (cond b (x ∷ []) []) ≤ 1
    one true x = omega arith
    one false x = omega arith

    none : Grows 1 s.history s.history
    none = same 1 s.history

    grown : (k : Kind) (n : ℕ) → Grows 1 s.history (after k n s).history
    grown join n = none
    grown leave n = none
    grown learns n = none
    grown send_update n = none
    grown receive_update n = none
    grown send_write n = none
    grown receive_write n = none
    grown connect n = none
    grown close n = none
    grown handle_update n = none
    grown handle_write n = record { written = ((handle_write_rule n).effect (sees handle_write n s)).accepted; few = one (accepts n (sees handle_write n s)) _; behind = refl }
    grown shutdown n = none
    grown startup n = none

-- ---- a run

pub run-keeps : (es : List Event) (s : State) → T (in_range s) → T (in_range (run step s es).state)
run-keeps [] s r = r
run-keeps (e ∷ es) s r = run-keeps es (step e s).state (step_keeps e s r)

pub run-count : (es : List Event) (s : State) → (run step s es).state.count ≡ s.count
run-count [] s = refl
run-count (e ∷ es) s = run-count es (step e s).state ∙ step_count e s

pub run-grows : (es : List Event) (s : State) → Grows (length es) s.history (run step s es).state.history
run-grows [] s = same 0 s.history
run-grows (e ∷ es) s = both (history-grows e s) (run-grows es (step e s).state)
  where
    both : {n : ℕ} {a b c : List Write} → Grows 1 a b → Grows n b c → Grows (suc n) a c
    both {a = a} g h = record {
      written = g.written ++ h.written;
      few = rw (length-append g.written h.written) (omega arith);
      behind = h.behind ∙ ap (λ l. l ++ h.written) g.behind ∙ append_assoc a g.written h.written;
    }

-- ---- the fresh state

pub fresh-fits : (n : ℕ) → 1 ≤ n → n ≤ most_nodes → T (in_range (fresh n))
unfolding fresh
fresh-fits n low high = range-complete (fresh n) (record {
  count = record { lower = low; upper = high };
  core = record {
    desk = record {
      size = length-replicate n [];
      service = masterless refl refl (omega arith);
      events = all_replicate (QueueFits (MastershipFits n)) n [] (queue-none (MastershipFits n));
    };
    learned-size = length-replicate n blank;
    learned = all_replicate (LearnedFits n) n blank (unlearned refl);
    says-size = length-replicate n false;
    board = no-board-fits n true 0 (omega arith);
  };
  history-size = omega arith;
  history = tt;
})
