-- The five wrong programs that the scope names. Each is shut out by a contract: no program that meets it is one of them; of runners, in proofs/Wrong. The right program is not shut out. Assumes nothing.
use Rattle.std.proofs.Math.Path.{◌≡◌, refl, sym, ap}
use Rattle.std.proofs.Common.{◌∙◌}
use Rattle.std.specs.Prelude as P
use Rattle.std.specs.Prelude.{◌≢◌, ℕ, ◌+◌, ◌≤◌, ◌<◌, T, length, replicate}
use mathlib.Core.List.{List, [], ◌∷◌}
use native.Mathlib.Omega.{arith}
use Rattle.std.specs.Borrow.{Bor, MutBor}
use Rattle.std.proofs.Math.ListN.{get_or}
use Rattle.rules.specs.State as S
use Rattle.rules.specs.Range.{in_range}
use Rattle.rules.specs.Step as Rules
use Rattle.rules.specs.Part.{Result}
use Rattle.rules.specs.Open.{Report, open_number, open_report}
use Rattle.rules_laws.specs.Steps.{fresh-fits}
use Rattle.rules_laws.specs.Computed.{computed}
use Rattle.rules_laws.specs.Tests.{is-yes}
use Rattle.step_state.specs.Hold.{represent}
use Rattle.step_state.specs.declared.State.{State}
use Rattle.step_bridge.specs.Held.{hold-represent}
use Rattle.step_bridge.specs.Passes.{fits-represent}
use Rattle.step.specs.Public.{stepped, told, reported}
use Rattle.step.specs.Numbers.{unnumbered, step-numbered, untold, report-told}
use Rattle.step.specs.declared.Stepped.{Stepped}
use Rattle.step.specs.declared.Open.{Open}
use Rattle.step_parts.specs.Answers.{code_of}
use Rattle.step_parts.specs.declared.Refusal.{Refusal}
use Rattle.run_lists.specs.EventList.{record_count}
use Rattle.run.specs.Ran.{Ran, no_writes, whole_run, run_refusal, ran}
use Rattle.contracts.specs.Opened.{states}
use Rattle.contracts.specs.Calls.{StepMay, OpenStreamsMay, RunMay}
use Rattle.contracts.specs.Only.{open-streams-told}
use Rattle.contracts.specs.Steps.{by-rules}

-- ---- steppers

-- A program that takes a step: from a state, a kind and a node to an answer and a state.
abbrev pub Stepper : Type 0
Stepper = State → ℕ → ℕ → Stepped

-- It meets the contract of `step`.
abbrev pub Steps : Stepper → Type 0
Steps f = (s : State) (kind node : ℕ) → StepMay (s, kind, node) (f s kind node) tt

-- The right one does.
pub right-steps : Steps (λ s kind node. unnumbered (stepped s kind node))
right-steps s kind node =
    record { lifetimes = tt; arguments = (s, (kind, (node, tt))); exit = (s, (kind, (node, tt))); is-given = refl; leaves = refl; met = step-numbered s kind node }

-- 1: it refuses all.
abbrev pub RefusesAll : Stepper → Type 0
RefusesAll f = (s : State) (kind node : ℕ) → code_of (f s kind node).answer ≢ 0

-- 2: where it answers 0, it changes nothing.
abbrev pub ChangesNothing : Stepper → Type 0
ChangesNothing f = (s : State) (kind node : ℕ) → code_of (f s kind node).answer ≡ 0 → (f s kind node).state ≡ s

-- 3: it has a fixed answer.
abbrev pub FixedAnswer : ℕ → Stepper → Type 0
FixedAnswer answer f = (s : State) (kind node : ℕ) → code_of (f s kind node).answer ≡ answer

-- The fresh state of two nodes.
abbrev begun : State
begun = represent (Rules.fresh 2)

fits : T (in_range (Rules.fresh 2))
fits = fresh-fits 2 (omega arith) (omega arith)

module _ (f : Stepper) (meets : Steps f) where
  -- Join 1 is done, and the service then has master 1.
  joins : code_of (f begun 1 1).answer ≡ 0
  unfolding computed
  joins = ap (λ (r : Result ℕ State). r.answer) (by-rules (record { kind = 1; node = 1 }) (Rules.fresh 2) fits (f begun 1 1) (meets begun 1 1))

  elects : (f begun 1 1).state.core.service.master ≡ 1
  unfolding states
  elects = ap (λ (r : Result ℕ State). r.state.core.service.master) (by-rules (record { kind = 1; node = 1 }) (Rules.fresh 2) fits (f begun 1 1) (meets begun 1 1))

  -- Connect 3 is refused: there is no node 3.
  refuses : code_of (f begun 8 3).answer ≡ 3
  unfolding computed
  refuses = ap (λ (r : Result ℕ State). r.answer) (by-rules (record { kind = 8; node = 3 }) (Rules.fresh 2) fits (f begun 8 3) (meets begun 8 3))

  pub not-refuses-all : ¬ RefusesAll f
  not-refuses-all wrong = wrong begun 1 1 joins

  pub not-changes-nothing : ¬ ChangesNothing f
  unfolding states
  not-changes-nothing wrong =
      let same : ◌≡◌ {A = ℕ} 1 0 = sym elects ∙ ap (λ (s : State). s.core.service.master) (wrong begun 1 1 joins) in
      omega arith

  pub not-fixed-answer : (answer : ℕ) → ¬ FixedAnswer answer f
  not-fixed-answer answer wrong =
      let same : ◌≡◌ {A = ℕ} 0 3 = sym joins ∙ wrong begun 1 1 ∙ sym (wrong begun 8 3) ∙ refuses in
      omega arith

-- ---- runners

-- A program that runs a list: from its bytes and those of a buffer to a number and the buffer.
abbrev pub Runner : Type 0
Runner = List ℕ → List ℕ → Ran

-- It meets the contract of `run`.
abbrev pub Runs : Runner → Type 0
Runs f = (list out : List ℕ) → RunMay (list, out) (f list out).returned (f list out).out

-- Bytes that are lent, wherever they stand.
abbrev bytes : List ℕ → Bor (List ℕ)
bytes l = record { ref_ptr = (0, 0); now = l }

abbrev buffer : List ℕ → MutBor (List ℕ)
buffer l = record { ref_ptr = (0, 0); ghost_name = 0; now = l }

-- The right one does.
pub right-runs : Runs ran
right-runs list out = record {
  lifetimes = ([], ([], tt));
  arguments = (bytes list, (buffer out, tt));
  exit = (bytes list, (buffer (ran list out).out, tt));
  is-given = refl;
  leaves = refl;
  met = (refl, refl);
}

-- 4: whatever the first record is answered, the others are answered 0.
abbrev pub ZeroForTheRest : Runner → Type 0
ZeroForTheRest f = (list out : List ℕ) → run_refusal list out ≡ 0 → (i : ℕ) → 1 ≤ i → i < record_count list → get_or (f list out).out i 0 ≡ 0

-- 5: for some list that is run, the number returned is not 256 plus the number of accepted writes.
abbrev pub MakesUpWrites : Runner → Type 0
MakesUpWrites f = (list : List ℕ) × (out : List ℕ) × (run_refusal list out ≡ 0) × ((f list out).returned ≢ no_writes + length (whole_run list).state.history)

-- Connect twice, of one node.
abbrev pub twice : List ℕ
twice = 8 ∷ 1 ∷ 8 ∷ 1 ∷ 0 ∷ 0 ∷ 0 ∷ 0 ∷ 2 ∷ 0 ∷ 0 ∷ 0 ∷ 1 ∷ 0 ∷ 77 ∷ 65 ∷ []

abbrev pub lent : List ℕ
lent = replicate 4098 0

-- ---- the open streams

-- A program that reports the open streams of a state.
abbrev pub Reporter : Type 0
Reporter = State → P.Result Open Refusal

-- It meets the contract of `open_streams`.
abbrev pub Reports : Reporter → Type 0
Reports f = (s : State) → OpenStreamsMay s (f s) tt

-- The right one does.
pub right-reports : Reports (λ s. untold (reported s))
right-reports s = record { lifetimes = tt; arguments = (s, tt); exit = (s, tt); is-given = refl; leaves = refl; met = report-told s }

-- 5: for some state in range, the number is not that of the open streams.
abbrev pub MakesUpStreams : Reporter → Type 0
MakesUpStreams f = (s : S.State) × T (in_range s) × ((told (f (represent s))).number ≢ open_number s.core.board.opens)

module _ (f : Reporter) (meets : Reports f) where
  pub not-makes-up-streams : ¬ MakesUpStreams f
  unfolding reported open_report
  not-makes-up-streams (s, fits, wrong) = wrong (ap (λ (r : Report). r.number) (open-streams-told (represent s) (f (represent s)) (meets (represent s)))
      ∙ rw (fits-represent s fits, hold-represent s fits, (is-yes (in_range s)).to fits) refl)
