-- A step of a rule on a body: refused, the body stays; done, the body is that of the state with the rule's effect. Assumes nothing.
use Rattle.std.specs.Prelude.{◌≡◌, refl, ◌≢◌, false, List, ◌++◌, ℕ, None}
use Rattle.std.proofs.Common.{sym, ap, ◌∙◌, append-nil, arith}
use Rattle.rules.specs.Codes.{step_done, not_allowed}
use Rattle.rules.specs.State as S
use Rattle.rules.specs.Part.{Out, refuse, done, Part, settle, via, Rule, decide}
use Rattle.rules_laws.specs.Answered.{Passes}
use Rattle.rules_laws.specs.Decide.{Decided, barred, no-term, no-history, no-queue, passed, decided, decides, via-is}
use Rattle.step_state.specs.Reads.{answer_of}
use Rattle.step_state.specs.declared.Body.{Body}
use Rattle.step_state.specs.Stores.{hold_accepted}
use Rattle.step_moves.specs.Bodies.{state_of, body_of, Ready, Leaves, Left}

-- Answer 0 is given only where every test of the rule holds.
pub passes : {R W : Type 0} (r : Rule R W) (v : R) → answer_of (decide r v) ≡ step_done → Passes r v
passes {W = W} r v e = go (decided r v) e
  where
    go : {o : Out ℕ W} → Decided r v o → answer_of o ≡ step_done → Passes r v
    go (barred a) e = absurd (omega arith)
    go (no-term a t) e = absurd (omega arith)
    go (no-history a t h) e = absurd (omega arith)
    go (no-queue a t h q) e = absurd (omega arith)
    go (passed p) e = p

module _ {St R W : Type 0} (p : Part St R W) (s : St) (r : Rule R W) where
  pub answered : (settle p s (decide r (p.get s))).answer ≡ answer_of (decide r (p.get s))
  answered = go (decide r (p.get s))
    where
      go : (o : Out ℕ W) → (settle p s o).answer ≡ answer_of o
      go (refuse a) = refl
      go (done a w) = refl

  pub stayed : answer_of (decide r (p.get s)) ≢ step_done → (settle p s (decide r (p.get s))).state ≡ s
  stayed h = via-is (λ x. x.answer ≢ step_done → x.state ≡ s) p r s (λ a d z. refl) (λ k z. absurd (z refl)) (λ z. h (sym answered ∙ z))

  pub put_in : answer_of (decide r (p.get s)) ≡ step_done → (settle p s (decide r (p.get s))).state ≡ p.put (r.effect (p.get s)) s
  put_in e = ap (λ (o : Out ℕ W). (settle p s o).state) (decides r (p.get s) (passed (passes r (p.get s) e)))

-- The answer of a step that accepts no write.
abbrev pub plain : ℕ → Body → Left
plain code b = record { code = code; body = b; accepted = None }

module _ {R W : Type 0} (p : Part S.State R W) (r : Rule R W) (b : Body) (ready : Ready b) (history : List S.Write) where
  abbrev s : S.State
  s = state_of b history

  -- The code's answer, not 0, is the rule's, of what the part reads.
  pub refused : (v : R) → v ≡ p.get (state_of b history) → (code : ℕ) → code ≡ answer_of (decide r v) → code ≢ step_done → Leaves history (via p (decide r) (state_of b history)) (plain code b)
  refused v e code c h =
      let answer : code ≡ answer_of (decide r (p.get s)) = c ∙ ap (λ (x : R). answer_of (decide r x)) e in
      let same = stayed p s r (λ z. h (answer ∙ z)) in
      record {
        code = answer ∙ sym (answered p s r);
        body = sym ready.same ∙ sym (ap body_of same);
        history-grows = ap (λ (t : S.State). t.history) same ∙ sym (append-nil history);
      }

  -- The rule does not allow the step.
  pub barred-at : (v : R) → v ≡ p.get (state_of b history) → r.allowed v ≡ false → Leaves history (via p (decide r) (state_of b history)) (plain not_allowed b)
  barred-at v e h = refused v e not_allowed (sym (ap answer_of (decides r v (barred (rw h tt))))) (λ z. omega arith)

  -- Every test of the rule holds, and what the code left is the state with the rule's effect.
  pub done_at : (v : R) → v ≡ p.get (state_of b history) → Passes r v → (m : Left) → m.code ≡ step_done
      → m.body ≡ body_of (p.put (r.effect v) (state_of b history)) → (p.put (r.effect v) (state_of b history)).history ≡ history ++ hold_accepted m.accepted → Leaves history (via p (decide r) (state_of b history)) m
  done_at v e k m c f g =
      let answer : answer_of (decide r (p.get s)) ≡ step_done = ap (λ (x : R). answer_of (decide r x)) (sym e) ∙ ap answer_of (decides r v (passed k)) in
      let put : (via p (decide r) s).state ≡ p.put (r.effect v) s = put_in p s r answer ∙ ap (λ (x : R). p.put (r.effect x) s) (sym e) in
      record {
        code = c ∙ sym answer ∙ sym (answered p s r);
        body = f ∙ sym (ap body_of put);
        history-grows = ap (λ (t : S.State). t.history) put ∙ g;
      }
