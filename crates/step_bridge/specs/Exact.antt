-- A state of structs is in range exactly if what it holds is in range and nothing else stands in it. Assumes nothing.
use Rattle.std.specs.Prelude.{◌≡◌, true, ◌↔◌, T}
use Rattle.std.proofs.Common.{sym, ap, ◌∙◌}
use Rattle.rules.specs.Range.{in_range}
use Rattle.rules_laws.specs.Tests.{◌&◌, as-is}
use Rattle.step_state.specs.Hold.{hold, represent}
use Rattle.step_state.specs.Tidy.{tidy_core, tidy_history, state_fits}
use Rattle.step_state.specs.declared.State.{State}
use Rattle.step_bridge.specs.Sized.{Sized}
use Rattle.step_bridge.specs.Same.{tidy-same}
use Rattle.step_bridge.specs.Passes.{fits-represent}

held_fits : (s : State) → state_fits s ≡ true → T (in_range (hold s))
unfolding state_fits
held_fits s e = ((as-is (tidy_core s.count s.core) & as-is (tidy_history s.history) & as-is (in_range (hold s))).to (rw e tt)).1

pub fits-exactly : (s : State) → Sized s → (state_fits s ≡ true) ↔ (T (in_range (hold s)) × (represent (hold s) ≡ s))
fits-exactly s z = ((λ e. (held_fits s e, tidy-same s z e)), (λ p. sym (ap state_fits p.1) ∙ fits-represent (hold s) p.0))
