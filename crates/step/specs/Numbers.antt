-- The numbers hide nothing: what a function gave is got back from them, and there is such an answer for each that the rules give. Assumes nothing.
use Rattle.std.specs.Prelude.{◌≡◌, refl, Bool, true, false, List, [], ◌∷◌, ℕ, get_or, Ok, Err}
use Rattle.std.specs.Prelude as P
use Rattle.std.proofs.Common.{sym, subst}
use Rattle.std.proofs.Math.Option.{Option, none, some}
use Rattle.rules.specs.State as S
use Rattle.rules.specs.Range.{in_range}
use Rattle.rules.specs.Part.{Result, Out, Rule, decide}
use Rattle.rules.specs.Parts.{part}
use Rattle.rules.specs.Rules.{Kind, class_of, rule}
use Rattle.rules.specs.Step as Rules
use Rattle.rules.specs.Step.{Event, called, at_node, of_kind, of_state, kind_of}
use Rattle.rules.specs.Open.{Report, open_report, word_of, open_number}
use Rattle.rules_laws.specs.Decide.{Decided, barred, no-term, no-history, no-queue, passed, decided}
use Rattle.step_parts.specs.Answers.{refusal_code, code_of}
use Rattle.step_parts.specs.declared.Refusal.{Refusal}
use Rattle.step_parts.specs.Refusals.{answer_in, refused-back}
use Rattle.step_state.specs.Hold.{hold}
use Rattle.step_state.specs.Tidy.{state_fits}
use Rattle.step_state.specs.Reads.{answer_of}
use Rattle.step_state.specs.declared.State.{State}
use Rattle.step_moves.specs.Acts.{answered}
use Rattle.step.specs.declared.Stepped.{Stepped}
use Rattle.step.specs.declared.Open.{Open}
use Rattle.step.specs.Public.{numbered, written, stepped, told, reported}

-- ---- a state with its answer

abbrev pub unnumbered : Result ℕ State → Stepped
unnumbered t = record { answer = answer_in (tt {0}) t.answer; state = t.state }

pub numbers-back : (r : Stepped) → unnumbered (numbered r) ≡ r
numbers-back r = λ i. record { answer = go r.answer i; state = r.state }
  where
    go : (x : P.Result (Unit {0}) Refusal) → answer_in (tt {0}) (code_of x) ≡ x
    go (Ok a) = refl
    go (Err e) = refused-back (tt {0}) e

-- Some answer has the number.
abbrev Said : ℕ → Type 0
Said n = code_of (answer_in (tt {0}) n) ≡ n

rule-said : {R W : Type 0} (r : Rule R W) (v : R) → Said (answer_of (decide r v))
rule-said {W = W} r v = go (decided r v)
  where
    go : {o : Out ℕ W} → Decided r v o → Said (answer_of o)
    go (barred a) = refl
    go (no-term a t) = refl
    go (no-history a t h) = refl
    go (no-queue a t h q) = refl
    go (passed p) = refl

kind-said : (n : ℕ) (s : S.State) (o : Option Kind) → Said (of_kind o n s).answer
kind-said n s none = refl
kind-said n s (some k) = go (called (class_of k) s.count n)
  where
    go : (x : Bool) → Said (at_node x k n s).answer
    go true = subst Said (sym (answered (part (class_of k) n) s (rule k n))) (rule-said (rule k n) ((part (class_of k) n).get s))
    go false = refl

step-said : (e : Event) (s : S.State) → Said (Rules.step e s).answer
unfolding Rules.step
step-said e s = go (in_range s)
  where
    go : (b : Bool) → Said (of_state b e s).answer
    go true = kind-said e.node s (kind_of e.kind)
    go false = refl

pub step-numbered : (s : State) (kind node : ℕ) → numbered (unnumbered (stepped s kind node)) ≡ stepped s kind node
unfolding stepped
step-numbered s kind node = λ i. record { answer = go (state_fits s) i; state = (stepped s kind node).state }
  where
    go : (b : Bool) → Said (P.cond b (written (Rules.step (record { kind = kind; node = node }) (hold s))) (record { answer = 1; state = s })).answer
    go true = step-said (record { kind = kind; node = node }) (hold s)
    go false = refl

-- ---- the open streams

abbrev pub untold : Report → P.Result Open Refusal
untold r = answer_in (record { word = r.word; number = r.number }) r.code

pub told-back : (r : P.Result Open Refusal) → untold (told r) ≡ r
told-back (Ok o) = refl
told-back (Err e) = refused-back (record { word = 0; number = 0 }) e

pub report-told : (s : State) → told (untold (reported s)) ≡ reported s
unfolding reported open_report
report-told s = go (state_fits s) (in_range (hold s))
  where
    go : (b c : Bool) → let r : Report = P.cond b (P.cond c (record { code = 0; word = word_of (hold s).core.board.opens; number = open_number (hold s).core.board.opens }) (record { code = 1; word = 0; number = 0 })) (record { code = 1; word = 0; number = 0 }) in told (untold r) ≡ r
    go true true = refl
    go true false = refl
    go false c = refl
