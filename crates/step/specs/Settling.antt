-- A history with one write more, a step put together with its history, and blank states. Assumes nothing.
use Rattle.std.specs.Prelude.{◌≡◌, Bool, List, [], ◌∷◌, ◌++◌, ℕ, Option, Some, None, ◌+◌, ◌<◌, length, set, replicate}
use Rattle.std.proofs.Common.{sym, length-append}
use Rattle.rules.specs.Limits.{history_length}
use Rattle.rules.specs.State as S
use Rattle.rules.specs.Queues.{push}
use Rattle.rules.specs.Step.{fresh}
use Rattle.any_list.specs.Padded.{padded-push, padded-none}
use Rattle.step_parts.specs.Hold.{pack_write}
use Rattle.step_parts.specs.declared.Write.{Write}
use Rattle.step_state.specs.Hold.{no_write, pack_history, represent}
use Rattle.step_state.specs.declared.History.{History}
use Rattle.step_state.specs.declared.State.{State}
use Rattle.step_state.specs.declared.Body.{Body}

abbrev pub appended : Write → History → History
appended e h = record { items = set h.items h.len e; len = h.len + 1 }

-- With the write of a step, if it accepted one.
abbrev pub grown : Option Write → History → History
grown None h = h
grown (Some e) h = appended e h

abbrev pub settled_as : Body → History → Option Write → State
settled_as b h o = record { count = b.count; running = b.running; core = b.core; history = grown o h }

pub appended-held : (l : List S.Write) (e : S.Write) → length l < history_length → appended (pack_write e) (pack_history l) ≡ pack_history (l ++ (e ∷ []))
unfolding pack_history push
appended-held l e h = λ i. record { items = padded-push no_write pack_write history_length l e h i; len = sym (length-append l (e ∷ [])) i }

-- ---- blanks

-- A state of blank rows.
unfoldable pub blank_state : ℕ → Bool → State
blank_state count running = represent (record { count = count; running = running; history = []; core = (fresh count).core })

pub no-history : replicate history_length no_write ≡ (pack_history []).items
unfolding pack_history
no-history = sym (padded-none no_write pack_write history_length)
