-- What waits at the head of a stream's requests, and the tests that Handle update and Handle write make of it. Assumes nothing.
use mathlib.Core.Path.{◌≡◌, refl, sym, ap, ◌∙◌}
use mathlib.Core.Logic.{◌≢◌, ⊎_elim}
use mathlib.Core.Bool.{Bool, true, false, not, cond, ◌&&◌}
use mathlib.Core.List.{[], ◌∷◌}
use Prim.Native.Nat.{ℕ}
use native.Mathlib.Omega.{arith}
use borrow.Author.Tests.{eq-eqb, ne_eqb}
use types.Run.{OneOf}
use denote.Enum.Declared.{tag_of}
use Rattle.rules.specs.State as S
use Rattle.rules.specs.Queues.{first, empty}
use Rattle.rules.specs.Rules.{is_update, is_write, no_request}
use Rattle.any_list.specs.Queue.{empty-held}
use Rattle.step_parts.specs.Hold as P
use Rattle.step_parts.specs.Hold.{hold_request, hold_requests, pack_request, pack_message, places}
use Rattle.step_parts.specs.declared.Message.{Message}
use Rattle.step_parts.specs.declared.Message.TheVariants as M
use Rattle.step_parts.specs.contracts.Message.{the_type}
use Rattle.step_state.specs.Order.{OrderedStream}
use Rattle.step_state.specs.declared.Stream.{Stream}
use Rattle.step_streams.specs.Asks.{HasHead}
use Rattle.step_streams.specs.Does.{able, waiting}

-- of four tests that hold, the first three
pub three : (r o e k : Bool) → (r && o && not e && k) ≡ true → (r ≡ true) × (o ≡ true) × (e ≡ false)
three true true false k z = (refl, refl, refl)
three true true true k z = let y : ◌≡◌ {A = ℕ} 0 1 = cc in absurd (omega arith)
three true false e k z = let y : ◌≡◌ {A = ℕ} 0 1 = cc in absurd (omega arith)
three false o e k z = let y : ◌≡◌ {A = ℕ} 0 1 = cc in absurd (omega arith)

pub record Ready (running : Bool) (s : Stream) : Type 0 where
  pub runs : running ≡ true
  pub opened : s.opened ≡ true
  pub some : empty (hold_requests s.requests) ≡ false

module _ (running : Bool) (s : Stream) (kind : Bool) (e : (able running s && kind) ≡ true) where
  pub ready : Ready running s
  ready = let t = three running s.opened (empty (hold_requests s.requests)) kind e in record { runs = t.0; opened = t.1; some = t.2 }

  pub running-too : (able true s && kind) ≡ true
  running-too = ap (λ (b : Bool). able b s && kind) (sym ready.runs) ∙ e

-- a request stands at the head of a queue that is not empty
pub some-waits : (s : Stream) → OrderedStream s → s.requests.len ≢ 0 → HasHead s
some-waits s o z = record { ordered = o; some = empty-held P.no_request pack_request hold_request (places s.requests) o.requests ∙ ne_eqb s.requests.len 0 z }

pub none-waits : (s : Stream) → OrderedStream s → s.requests.len ≡ 0 → empty (hold_requests s.requests) ≡ true
none-waits s o e = empty-held P.no_request pack_request hold_request (places s.requests) o.requests ∙ eq-eqb s.requests.len 0 e

-- ---- an arm of a match on a message

pub not-update : (m : Message) → OneOf (0 ∷ 2 ∷ []) (tag_of the_type m) → m ≡ M.Update → ⊥
not-update M.Nothing k e = let z : ◌≡◌ {A = ℕ} 0 1 = cc in omega arith
not-update M.Update k e = ⊎_elim (λ z. omega arith) (λ z. omega arith) k
not-update M.Write k e = let z : ◌≡◌ {A = ℕ} 0 1 = cc in omega arith

pub not-write : (m : Message) → OneOf (0 ∷ 1 ∷ []) (tag_of the_type m) → m ≡ M.Write → ⊥
not-write M.Nothing k e = let z : ◌≡◌ {A = ℕ} 0 1 = cc in omega arith
not-write M.Update k e = let z : ◌≡◌ {A = ℕ} 0 1 = cc in omega arith
not-write M.Write k e = ⊎_elim (λ z. omega arith) (λ z. omega arith) k

-- ---- what waits

-- what the request at the head is about
abbrev pub message : Stream → S.Message
message s = (first no_request (hold_requests s.requests)).message

module _ (running : Bool) (s : Stream) where
  pub update-waits : waiting running s ≡ M.Update → (able running s && is_update (message s)) ≡ true
  unfolding waiting is_update
  update-waits = go (able running s) (message s)
    where
      go : (b : Bool) (k : S.Message) → cond b (pack_message k) M.Nothing ≡ M.Update → (b && is_update k) ≡ true
      go true S.update e = refl
      go true S.write e = let z : ◌≡◌ {A = ℕ} 0 1 = cc in absurd (omega arith)
      go false k e = let z : ◌≡◌ {A = ℕ} 0 1 = cc in absurd (omega arith)

  pub no-update-waits : (waiting running s ≡ M.Update → ⊥) → (able running s && is_update (message s)) ≡ false
  unfolding waiting is_update
  no-update-waits = go (able running s) (message s)
    where
      go : (b : Bool) (k : S.Message) → (cond b (pack_message k) M.Nothing ≡ M.Update → ⊥) → (b && is_update k) ≡ false
      go true S.update e = absurd (e refl)
      go true S.write e = refl
      go false k e = refl

  pub write-waits : waiting running s ≡ M.Write → (able running s && is_write (message s)) ≡ true
  unfolding waiting is_write
  write-waits = go (able running s) (message s)
    where
      go : (b : Bool) (k : S.Message) → cond b (pack_message k) M.Nothing ≡ M.Write → (b && is_write k) ≡ true
      go true S.update e = let z : ◌≡◌ {A = ℕ} 0 1 = cc in absurd (omega arith)
      go true S.write e = refl
      go false k e = let z : ◌≡◌ {A = ℕ} 0 1 = cc in absurd (omega arith)

  pub no-write-waits : (waiting running s ≡ M.Write → ⊥) → (able running s && is_write (message s)) ≡ false
  unfolding waiting is_write
  no-write-waits = go (able running s) (message s)
    where
      go : (b : Bool) (k : S.Message) → (cond b (pack_message k) M.Nothing ≡ M.Write → ⊥) → (b && is_write k) ≡ false
      go true S.update e = refl
      go true S.write e = absurd (e refl)
      go false k e = refl
