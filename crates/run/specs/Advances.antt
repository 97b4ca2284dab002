-- A body that holds a state in range is ready for a step, and the code's step on it is the step of the rules. Assumes nothing.
use Rattle.std.specs.Prelude.{◌≡◌, Bool, List, [], T}
use Rattle.std.proofs.Common.{sym, ◌∙◌, arith}
use Rattle.std.proofs.Math.Path.{ap, subst}
use Prim.Native.Nat.{ℕ}
use Rattle.rules.specs.State as S
use Rattle.rules.specs.Range.{in_range}
use Rattle.rules.specs.Part.{Result}
use Rattle.rules.specs.Step.{Event, kind_of, of_kind, of_state, step}
use Rattle.rules_laws.specs.RangeTest.{range-sound, range-complete}
use Rattle.rules_laws.specs.Tests.{is-yes}
use Rattle.step_state.specs.Hold.{hold_core, pack_core, hold, represent}
use Rattle.step_state.specs.declared.Body.{Body}
use Rattle.step_bridge.specs.Held.{hold-represent}
use Rattle.step_moves.specs.Bodies.{state_of, body_of, Ready, Leaves, Left}

module _ (s : S.State) (fits : T (in_range s)) where
  core-back : hold_core s.count (pack_core s.core) ≡ s.core
  unfolding hold represent
  core-back = ap (λ (t : S.State). t.core) (hold-represent s fits)

  -- What is written into a body is read back.
  state-back : (history : List S.Write) → state_of (body_of s) history ≡ record { count = s.count; running = s.running; history = history; core = s.core }
  state-back history = λ i. record { count = s.count; running = s.running; history = history; core = core-back i }

  module _ (b : Body) (holds : b ≡ body_of s) where
    pub ready : Ready b
    ready = subst Ready (sym holds) (let r = range-sound s fits in record {
      fits = subst (λ (t : S.State). T (in_range t)) (sym (state-back [])) (range-complete _ (record { count = r.count; core = r.core; history-size = omega arith; history = tt }));
      same = ap body_of (state-back []);
    })

    pub advances : (kind node : ℕ) (m : Left) → Leaves s.history (of_kind (kind_of kind) node (state_of b s.history)) m
        → Leaves s.history (step (record { kind = kind; node = node }) s) m
    unfolding step
    advances kind node m l =
        let e : Event = record { kind = kind; node = node } in
        let same : state_of b s.history ≡ s = ap (λ (x : Body). state_of x s.history) holds ∙ state-back s.history in
        subst (λ (t : Result ℕ S.State). Leaves s.history t m)
        (ap (λ (t : S.State). of_kind (kind_of kind) node t) same ∙ ap (λ (x : Bool). of_state x e s) (sym ((is-yes (in_range s)).to fits))) l
