-- States that tell wrong range tests apart: the only answer of `in_range` to them. Assumes nothing.
use Rattle.std.specs.Prelude.{◌≡◌, refl, true, false, not, List, [], ◌∷◌, T}
use Rattle.std.proofs.Common.{◌∙◌}
use Rattle.rules.specs.State as S
use Rattle.rules.specs.Range.{all, in_range}
use Rattle.rules.specs.Parts.{on_device, tell_part}
use Rattle.rules.specs.Step.{fresh}
use Rattle.rules_laws.specs.All.{All}
use Rattle.rules_laws.specs.Lists.{all-each}
use Rattle.rules_laws.specs.Tests.{is-not, is-yes, is_all}
use Rattle.rules_cases.specs.Outside.{inside, outside, are-inside}
use Rattle.step_state.specs.Hold.{represent}
use Rattle.step_state.specs.Tidy.{state_fits}
use Rattle.step_state.specs.Unused.{at_last_places, in_last_rows, is_tidy, places-are-untidy, rows-are-untidy, untidy-is-out}
use Rattle.step_state.specs.declared.State.{State}
use Rattle.step_bridge.specs.Passes.{fits-represent}
use Rattle.contracts.specs.Contract.{Gives}
use Rattle.contracts.specs.Opened.{states}
use Rattle.contracts.specs.Calls.{InRangeMay}
use Rattle.contracts.specs.Only.{only-in-range}

-- Every state in range, written into structs.
pub in-range : (s : S.State) → T (in_range s) → Gives InRangeMay (represent s) true tt
in-range s fits r h m = ((only-in-range (represent s) r h m).0 ∙ fits-represent s fits, refl)

-- The states of the two tables, by the response that waits in them.
listed_in : (s : S.State) → in_range s ≡ true → Gives InRangeMay (represent s) true tt
listed_in s e = in-range s ((is-yes (in_range s)).from e)

pub are-in-range : All (λ s. Gives InRangeMay (represent s) true tt) inside
are-in-range = all-each listed_in inside are-inside

listed-out : (s : S.State) → state_fits (represent s) ≡ false → Gives InRangeMay (represent s) false tt
listed-out s e r h m = ((only-in-range (represent s) r h m).0 ∙ e, refl)

fit-not : All (λ s. state_fits (represent s) ≡ false) outside
unfolding states
fit-not = (is_all (λ s. is-not (state_fits (represent s))) outside).to tt

pub are-out-of-range : All (λ s. Gives InRangeMay (represent s) false tt) outside
are-out-of-range = all-each listed-out outside fit-not

-- Two nodes; node 1's stream is closed, and the switch holds term 1 of it.
abbrev term_kept : State
term_kept = represent ((on_device (tell_part 1)).put (record { is_open = false; sent = 0; requests = []; responses = [] ∷ [] ∷ []; id = 0; term = 1 }) (fresh 2))

pub closed-keeps-term : Gives InRangeMay term_kept false tt
unfolding states
closed-keeps-term = only-in-range term_kept

-- ---- what nothing uses is blank

refused : (s : State) → is_tidy s ≡ false → Gives InRangeMay s false tt
refused s e r h m = ((only-in-range s r h m).0 ∙ untidy-is-out s e, refl)

all-refused : (l : List State) → all (λ s. not (is_tidy s)) l ≡ true → All (λ s. Gives InRangeMay s false tt) l
all-refused l e = all-each refused l ((is_all (λ s. is-not (is_tidy s)) l).to ((is-yes (all (λ s. not (is_tidy s)) l)).from e))

-- Something at the last place of an array, where nothing is in use; something in the last row, above N.
pub last-place-looked-at : All (λ s. Gives InRangeMay s false tt) at_last_places
last-place-looked-at = all-refused at_last_places places-are-untidy

pub row-above-n : All (λ s. Gives InRangeMay s false tt) in_last_rows
row-above-n = all-refused in_last_rows rows-are-untidy
