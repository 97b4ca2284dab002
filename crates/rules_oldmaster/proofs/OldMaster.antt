-- Why an old master can't get in: the law holds from fresh on, and says what is claimed of the history. Assumes nothing.
use Rattle.std.proofs.Math.Path.{◌≡◌, sym, ap}
use Rattle.std.specs.Prelude.{refl, ◌≢◌, ◌⊎◌, ℕ, ◌≤◌}
use Rattle.std.proofs.Common.{ap₂, ◌∙◌, inl, inr}
use mathlib.Core.List.Memᴰ
use mathlib.Core.List.{List, [], ◌∷◌, ◌++◌, append-nil, append_assoc, Memᴰ}
use native.Mathlib.Omega.{arith}
use Rattle.std.proofs.Math.Seq.{append_snoc}
use Rattle.rules.specs.State.{Mastership, Request, Write, blank}
use Rattle.rules.specs.Queues.{push, first}
use Rattle.rules.specs.Election.{elected}
use Rattle.rules.specs.Rules.{no_request}
use Rattle.rules.specs.Step.{Event, step, fresh}
use Rattle.rules_laws.specs.Lists.{replicate-at}
use Rattle.rules_laws.specs.Steps.{step_count}
use Rattle.rules_laws.specs.Runs.{run-state}
use Rattle.rules_oldmaster.specs.KeptOut.{state_after, service_after, history_after, Named, Accepted, OldMastersKeptOut}
use Rattle.rules_oldmaster.specs.Growing.{nothing-before, FirstPart, all, part, first_part, same_end, one_by_one, all-member}
use Rattle.rules_oldmaster.specs.Change.{HistoryChange, kept, Accepts, accepts, Change}
use Rattle.rules_oldmaster.specs.Invariant.{by, Lawful}
use Rattle.rules_oldmaster.proofs.Invariant.{accepted-term, accepted-named, lawful-step}
use Rattle.rules_oldmaster.proofs.Steps.{step-changes}

-- ---- moments

module _ (count : ℕ) where
  named-now : (es : List Event) → Named count es (by (service_after count es))
  named-now es = record { before = es; behind = []; splits = append-nil es; master = refl; term = refl }

  module _ (es : List Event) (e : Event) where
    named-later : (w : Write) → Named count es w → Named count (es ++ (e ∷ [])) w
    named-later w k = record {
      before = k.before;
      behind = k.behind ++ (e ∷ []);
      splits = sym (append_assoc k.before k.behind (e ∷ [])) ∙ ap (λ l. l ++ (e ∷ [])) k.splits;
      master = k.master;
      term = k.term;
    }

    named-earlier : (w : Write) → Named count (es ++ (e ∷ [])) w → Named count es w ⊎ (w ≡ by (service_after count (es ++ (e ∷ []))))
    named-earlier w k = go (first_part k.before k.behind es e k.splits)
      where
        go : FirstPart k.before es e → Named count es w ⊎ (w ≡ by (service_after count (es ++ (e ∷ []))))
        go (all p) = let write : ℕ → ℕ → Write = λ n t. record { node = n; term = t } in inr (rw (← p) (ap₂ write (sym k.master) (sym k.term)))
        go (part rest p) = inl (record { before = k.before; behind = rest; splits = p; master = k.master; term = k.term })

    changed : Change e (state_after count es) (state_after count (es ++ (e ∷ [])))
    unfolding push
    changed = rw (run-state step (fresh count) es e) (step-changes e (state_after count es))

    lawful-more : Lawful (Named count es) (state_after count es) → Lawful (Named count (es ++ (e ∷ []))) (state_after count (es ++ (e ∷ [])))
    unfolding push
    lawful-more h = lawful-step (rw (run-state step (fresh count) es e) (step_count e (state_after count es))) (named-now es)
        (record { before = named-later; now = named-now (es ++ (e ∷ [])); only = named-earlier }) h changed

  lawful-fresh : Lawful (Named count []) (fresh count)
  unfolding fresh elected
  lawful-fresh = record {
    once = λ x y p q a. absurd (a (nobody x p).0);
    bound = λ x p. let z = (nobody x p).1 in omega arith;
    events = λ i m k. absurd (Memᴰ.not-nil (rw (replicate-at {A = List Mastership} count [] i) at k));
    rows = λ i. rw (replicate-at count blank i, replicate-at {A = ℕ} count 0 i, replicate-at {A = List Request} count [] i) (record { learned = λ z. absurd (omega arith); climbs = omega arith; requests = tt; id = omega arith });
    history = record { node = tt; named = tt; below = tt; never-falls = tt };
  }
    where
      nobody : (x : Write) → Named count [] x → (x.node ≡ 0) × (x.term ≡ 0)
      nobody x k = let e = nothing-before k.before k.behind k.splits in (sym (rw e at k.master), sym (rw e at k.term))

  lawful : (es : List Event) → Lawful (Named count es) (state_after count es)
  lawful = one_by_one (λ es. Lawful (Named count es) (state_after count es)) lawful-fresh lawful-more

  -- ---- the step that accepted a write

  accepted-later : (es : List Event) (e : Event) {old : List Write} {w : Write} → Accepted count es old w → Accepted count (es ++ (e ∷ [])) old w
  accepted-later es e a = record {
    before = a.before;
    handled = a.handled;
    behind = a.behind ++ (e ∷ []);
    splits = sym (append_assoc a.before (a.handled ∷ a.behind) (e ∷ [])) ∙ ap (λ l. l ++ (e ∷ [])) a.splits;
    kind = a.kind;
    node = a.node;
    named = a.named;
    was = a.was;
    became = a.became;
    recorded = a.recorded;
    tested = a.tested;
  }

  -- The last step accepted a write.
  accepted-now : (es : List Event) (e : Event) (a : Accepts e (state_after count es) (state_after count (es ++ (e ∷ []))))
      → Accepted count (es ++ (e ∷ [])) (history_after count es) (record { node = e.node; term = a.request.term })
  unfolding first
  accepted-now es e a = record {
    before = es;
    handled = e;
    behind = [];
    splits = refl;
    kind = a.kind;
    node = refl;
    named = accepted-named (lawful es).rows a;
    was = refl;
    became = a.recorded;
    recorded = ap (λ q. (first no_request q).term) a.head;
    tested = accepted-term (lawful es).rows a;
  }

  abbrev Traced : List Event → Type 0
  Traced es = (old new : List Write) (w : Write) → old ++ w ∷ new ≡ history_after count es → Accepted count es old w

  traced-more : (es : List Event) (e : Event) → Traced es → Traced (es ++ (e ∷ []))
  traced-more es e f old new w p = go (changed es e).history
    where
      -- One write has joined the history: it is w, or w was there.
      joined : (a : Accepts e (state_after count es) (state_after count (es ++ (e ∷ []))))
          → FirstPart (old ++ (w ∷ [])) (history_after count es) (record { node = e.node; term = a.request.term }) → Accepted count (es ++ (e ∷ [])) old w
      joined a (all q) = let s = same_end old (history_after count es) w _ q in rw (s.0, s.1) (accepted-now es e a)
      joined a (part rest q) = accepted-later es e (f old rest w (sym (append_snoc old w rest) ∙ q))

      go : HistoryChange e (state_after count es) (state_after count (es ++ (e ∷ []))) → Accepted count (es ++ (e ∷ [])) old w
      go (kept h l) = accepted-later es e (f old new w (p ∙ h))
      go (accepts a) = joined a (first_part (old ++ (w ∷ [])) new (history_after count es) _ (append_snoc old w new ∙ p ∙ a.recorded))

  traced-fresh : Traced []
  unfolding fresh
  traced-fresh old new w p = let n = nothing-before old (w ∷ new) p in let z : ◌≡◌ {A = ℕ} 0 1 = cc in absurd (omega arith)

  traced : (es : List Event) → Traced es
  traced = one_by_one Traced traced-fresh traced-more

-- ---- the statement

pub kept_out : OldMastersKeptOut
kept_out count es = record {
  never-falls = law.history.never-falls;
  one-node = λ x y p q e. law.once x y (named_in x p) (named_in y q) (some-node x p) (some-node y q) e;
  named = named_in;
  no_other = λ w p before behind q e z. law.once _ w (record { before = before; behind = behind; splits = q; master = refl; term = refl }) (named_in w p) z (some-node w p) e;
  accepted = traced count es;
}
  where
    law : Lawful (Named count es) (state_after count es)
    law = lawful count es

    named_in : (w : Write) → Memᴰ w (history_after count es) → Named count es w
    named_in w p = all-member (Named count es) w (history_after count es) law.history.named p

    some-node : (w : Write) → Memᴰ w (history_after count es) → w.node ≢ 0
    some-node w p z = let low = all-member (λ w. 1 ≤ w.node) w (history_after count es) law.history.node p in omega arith
