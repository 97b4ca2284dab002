-- Steps that are taken as the contract of `step` lets them be go by the rules. Assumes nothing.
use Rattle.std.specs.Prelude.{◌≡◌, refl, List, [], ◌∷◌, ℕ, T}
use Rattle.std.proofs.Common.{sym, ap, ap₂, ◌∙◌}
use Rattle.rules.specs.State as S
use Rattle.rules.specs.Range.{in_range}
use Rattle.rules.specs.Part.{Result}
use Rattle.rules.specs.Step as Rules
use Rattle.rules.specs.Step.{Event}
use Rattle.rules.specs.Run.{run}
use Rattle.rules_laws.specs.Steps.{step_keeps, run-keeps}
use Rattle.rules_cases.specs.Situation.{Situation, Every, Holds}
use Rattle.rules_cases.specs.Table.{table, situations}
use Rattle.step_parts.specs.Answers.{code_of}
use Rattle.step_state.specs.Hold.{hold, represent}
use Rattle.step_state.specs.declared.State.{State}
use Rattle.step_bridge.specs.Held.{hold-represent}
use Rattle.step_bridge.specs.Passes.{fits-represent}
use Rattle.step.specs.Public.{numbered, written, stepped}
use Rattle.step.specs.declared.Stepped.{Stepped}
use Rattle.contracts.specs.Calls.{StepMay}
use Rattle.contracts.specs.Only.{step-numbers}

-- From state s, steps that are answered as the contract lets them be, each from the state that the one before it left: their answers, and the last state.
abbrev pub Taken : State → List Event → List ℕ → State → Type 0
Taken s [] [] t = t ≡ s
Taken s [] (a ∷ answers) t = ⊥
Taken s (e ∷ es) [] t = ⊥
Taken s (e ∷ es) (a ∷ answers) t = (r : Stepped) × (code_of r.answer ≡ a) × StepMay (s, e.kind, e.node) r tt × Taken r.state es answers t

-- ---- one step

-- From a state in range there is one answer, that of the rules.
pub by-rules : (e : Event) (s : S.State) → T (in_range s) → (r : Stepped) → StepMay (represent s, e.kind, e.node) r tt → numbered r ≡ written (Rules.step e s)
unfolding stepped
by-rules e s fits r m = step-numbers (represent s, e.kind, e.node) r m ∙ rw (fits-represent s fits) (ap (λ t. written (Rules.step e t)) (hold-represent s fits))

-- ---- several

taken : (es : List Event) (answers : List ℕ) (s : S.State) (u t : State) → T (in_range s) → u ≡ represent s → Taken u es answers t → (answers ≡ (run Rules.step s es).answer) × (t ≡ represent (run Rules.step s es).state)
taken [] [] s u t fits p k = (refl, k ∙ p)
taken [] (a ∷ answers) s u t fits p k = absurd k
taken (e ∷ es) [] s u t fits p k = absurd k
taken (e ∷ es) (a ∷ answers) s u t fits p k =
    let w = by-rules e s fits k.0 (rw p at k.2) in
    let rest = taken es answers (Rules.step e s).state k.0.state t (step_keeps e s fits) (ap (λ (x : Result ℕ State). x.state) w) k.3 in
    (ap₂ (λ (x : ℕ) (l : List ℕ). x ∷ l) (sym k.1 ∙ ap (λ (x : Result ℕ State). x.answer) w) rest.0, rest.1)

-- ---- the small situations: whatever meets the contract answers as they say, and then what they say stands in the state

abbrev pub Obeyed : Situation → Type 0
Obeyed x = (answers : List ℕ) (t : State) → Taken (represent x.start) x.steps answers t → (answers ≡ x.answers) × Every (λ c. c.look (hold t) ≡ c.stands) x.ends

each : {A : Type 1} {P Q : A → Type 0} → ((x : A) → P x → Q x) → (l : List A) → Every P l → Every Q l
each f [] h = tt
each f (x ∷ l) h = (f x h.0, each f l h.1)

obeys : (x : Situation) → Holds x → Obeyed x
obeys x h answers t k =
    let s = (run Rules.step x.start x.steps).state in
    let r = taken x.steps answers x.start (represent x.start) t h.in-range refl k in
    let holds : hold t ≡ s = ap hold r.1 ∙ hold-represent s (run-keeps x.steps x.start h.in-range) in
    (r.0 ∙ h.answers, each (λ c stands. ap c.look holds ∙ stands) x.ends h.ends)

pub obeyed : Every Obeyed table
obeyed = each obeys table situations
