-- A step of a kind that exists, at a node that it calls for, is its rule's. Assumes nothing.
use Rattle.std.specs.Prelude.{◌≡◌, refl, ◌≢◌, Bool, true, false, List, ℕ}
use Rattle.std.proofs.Common.{sym, ap, subst, ◌∙◌, append-nil}
use Rattle.std.proofs.Math.Option.{Option, none, some}
use Rattle.rules.specs.Codes.{step_done}
use Rattle.rules.specs.State as S
use Rattle.rules.specs.Part.{Result, decide}
use Rattle.rules.specs.Parts.{Reads, part}
use Rattle.rules.specs.Rules.{Kind, class_of, rule}
use Rattle.rules.specs.Step.{kind_of, called, act, at_node, of_kind}
use Rattle.step_state.specs.Reads.{answer_of}
use Rattle.step_state.specs.declared.Body.{Body}
use Rattle.step_moves.specs.Bodies.{state_of, body_of, Ready, Leaves, Left}
use Rattle.step_moves.specs.Acts.{plain, answered, stayed}
use Rattle.step_parts.specs.Answers.{refusal_code}
use Rattle.step_parts.specs.Refusals.{code-some}
use Rattle.step_parts.specs.declared.Refusal.{Refusal}
use Rattle.step_asks.specs.declared.Ask.{Ask}

-- What is asked of a body.
abbrev pub ask_of : Body → ℕ → ℕ → Ask
ask_of b k n = record { count = b.count; running = b.running; kind = k; node = n }

module _ (b : Body) (n : ℕ) (history : List S.Write) (k : ℕ) (of : Kind) (is : kind_of k ≡ some of) (calls : called (class_of of) b.count n ≡ true) where
  abbrev s : S.State
  s = state_of b history

  called-as : of_kind (kind_of k) n (state_of b history) ≡ act of n (state_of b history)
  called-as = ap (λ (o : Option Kind). of_kind o n s) is ∙ ap (λ (x : Bool). at_node x of n s) calls

  -- its answer, of what the class reads
  pub called-answer : (v : Reads (class_of of)) → v ≡ (part (class_of of) n).get (state_of b history) → answer_of (decide (rule of n) v) ≡ (of_kind (kind_of k) n (state_of b history)).answer
  called-answer v e =
      ap (λ (x : Reads (class_of of)). answer_of (decide (rule of n) x)) e
      ∙ sym (answered (part (class_of of) n) s (rule of n))
      ∙ sym (ap (λ (t : Result ℕ S.State). t.answer) called-as)

  pub called-leaves : {m : Left} → Leaves history (act of n (state_of b history)) m → Leaves history (of_kind (kind_of k) n (state_of b history)) m
  called-leaves {m} l = subst (λ (t : Result ℕ S.State). Leaves history t m) (sym called-as) l

-- ---- a step that is not done

refused-stays : (n : ℕ) (s : S.State) (o : Option Kind) → (of_kind o n s).answer ≢ step_done → (of_kind o n s).state ≡ s
refused-stays n s none h = refl
refused-stays n s (some k) h = go (called (class_of k) s.count n) h
  where
    go : (x : Bool) → (at_node x k n s).answer ≢ step_done → (at_node x k n s).state ≡ s
    go true h = stayed (part (class_of k) n) s (rule k n) (λ z. h (answered (part (class_of k) n) s (rule k n) ∙ z))
    go false h = refl

pub refused-leaves : (b : Body) → Ready b → (n : ℕ) (history : List S.Write) (o : Option Kind) (code : ℕ) → code ≡ (of_kind o n (state_of b history)).answer → code ≢ step_done
    → Leaves history (of_kind o n (state_of b history)) (plain code b)
refused-leaves b ready n history o code e h =
    let same = refused-stays n (state_of b history) o (λ z. h (e ∙ z)) in
    record { code = e; body = sym ready.same ∙ sym (ap body_of same); history-grows = ap (λ (t : S.State). t.history) same ∙ sym (append-nil history) }

pub refused-by : (b : Body) → Ready b → (n : ℕ) (history : List S.Write) (o : Option Kind) (r : Refusal) → refusal_code r ≡ (of_kind o n (state_of b history)).answer
    → Leaves history (of_kind o n (state_of b history)) (plain (refusal_code r) b)
refused-by b ready n history o r e = refused-leaves b ready n history o (refusal_code r) e (code-some r)
