-- The kinds of the code and those of the rules; and which number has which. Assumes nothing.
use Rattle.std.specs.Prelude.{◌≡◌, ℕ, Result, MatchResult}
use Rattle.std.proofs.Math.Option.{none}
use Rattle.rules.specs.Rules as S
use Rattle.rules.specs.Step.{kind_of, number_of}
use Rattle.step_parts.specs.declared.Kind.{Kind}
use Rattle.step_parts.specs.declared.Kind.TheVariants as K
use Rattle.step_parts.specs.declared.Refusal.{Refusal}
use Rattle.step_parts.specs.declared.Refusal.TheVariants as R

abbrev pub hold_kind : Kind → S.Kind
hold_kind K.Join = S.join
hold_kind K.Leave = S.leave
hold_kind K.Learn = S.learns
hold_kind K.SendUpdate = S.send_update
hold_kind K.ReceiveUpdate = S.receive_update
hold_kind K.SendWrite = S.send_write
hold_kind K.ReceiveWrite = S.receive_write
hold_kind K.Connect = S.connect
hold_kind K.Close = S.close
hold_kind K.HandleUpdate = S.handle_update
hold_kind K.HandleWrite = S.handle_write
hold_kind K.Shutdown = S.shutdown
hold_kind K.Startup = S.startup

-- The kind with this number; or a refusal, where no kind has it.
abbrev pub IsKindOf : ℕ → Result Kind Refusal → Type 0
IsKindOf n r = MatchResult r (λ kind. n ≡ number_of (hold_kind kind)) (λ why. (why ≡ R.UnknownKind) × (kind_of n ≡ none))
