-- What the code keeps of a whole message is what the message says. Assumes nothing.
use Rattle.std.specs.Prelude.{◌≡◌, refl, Bool, true, false, cond, List, ℕ, eqb, Ok, Err}
use Rattle.std.proofs.Common.{sym, ap, ap₂, ◌∙◌}
use Rattle.std.proofs.Math.Option.{Option, some}
use Rattle.wire_fields.specs.Fields.{Field, varint, fixed, bytes}
use Rattle.wire_fields.specs.Messages.{Reading, mapped, message}
use Rattle.wire_fields.specs.Folding.{message-seen}
use Rattle.wire_arbitration.specs.Update as Spec
use Rattle.wire_arbitration.specs.Seen.{value, seen, raw_of}
use Rattle.wire_arbitration.specs.Raw.{see_scalar, see_first, see_two, with_device, with_role, with_election, with_status, nothing_said, see_bytes, see, message_onto}
use Rattle.wire_arbitration.specs.declared.Raw.{Raw}
use Rattle.wire_arbitration.specs.Choices.{either_same}

-- ---- one scalar

value-if : (b : Bool) (v : ℕ) (old : Option ℕ) → value (cond b (some v) old) ≡ cond b v (value old)
value-if true v old = refl
value-if false v old = refl

value-scalar : (n : ℕ) (f : Field) (old : Option ℕ) → value (Spec.scalar n f old) ≡ see_scalar n f (value old)
value-scalar n (varint k v) old = value-if (eqb k n) v old
value-scalar n (fixed k) old = refl
value-scalar n (bytes k held) old = refl

-- ---- the whole message

-- An embedded message of any kind.
module _ {A B : Type 0} (inside : Field → A → A) (look : Field → B → Reading B) (view : A → B) (each : (f : Field) (a : A) → Ok (view (inside f a)) ≡ look f (view a)) where
  embedded-seen : (u : Spec.Update) (put : Spec.Update → Option A → Spec.Update) (store : Raw → B → Raw) (blank : A) (old : Option A) (held : List ℕ)
      → ((a : A) → seen (put u (some a)) ≡ store (seen u) (view a))
      → mapped seen (mapped (put u) (Spec.embedded inside blank old held)) ≡ mapped (store (seen u)) (message look (view (Spec.or_else blank old)) held)
  embedded-seen u put store blank old held e =
      go (message table (Spec.or_else blank old) held) ∙ ap (mapped (store (seen u))) (message-seen table look view each held (Spec.or_else blank old))
    where
      table : Field → A → Reading A
      table f a = Ok (inside f a)

      go : (r : Reading A) → mapped seen (mapped (put u) (mapped some r)) ≡ mapped (store (seen u)) (mapped view r)
      go (Ok a) = ap Ok (e a)
      go (Err why) = refl

sees-field : (f : Field) (u : Spec.Update) → mapped seen (Spec.took f u) ≡ see f (seen u)
unfolding see_bytes
sees-field (varint k v) u = ap (λ (d : ℕ). Ok (with_device (seen u) d)) (value-scalar 1 (varint k v) u.device)
sees-field (fixed k) u = refl
sees-field (bytes k held) u =
    either_same (mapped seen) (eqb k 2)
    (embedded-seen Spec.in_role see_first (λ r. value r.id) (λ f r. ap Ok (value-scalar 1 f r.id)) u Spec.with_role with_role Spec.no_role u.role held (λ r. refl))
    (either_same (mapped seen) (eqb k 3)
    (embedded-seen Spec.in_election see_two (λ e. record { first = value e.high; second = value e.low })
    (λ f e. ap₂ (λ (x y : ℕ). Ok (record { first = x; second = y })) (value-scalar 1 f e.high) (value-scalar 2 f e.low)) u Spec.with_election with_election Spec.no_election u.election held (λ e. refl))
    (either_same (mapped seen) (eqb k 4)
    (embedded-seen Spec.in_status see_first (λ s. value s.code) (λ f s. ap Ok (value-scalar 1 f s.code)) u Spec.with_status with_status Spec.no_status u.status held (λ s. refl))
    refl))

-- On top of what an earlier message gave, and by itself.
pub sees-onto : (u : Spec.Update) (l : List ℕ) → message_onto (seen u) l ≡ mapped seen (message Spec.took u l)
sees-onto u l = sym (message-seen Spec.took see seen sees-field l u)

pub sees-message : (l : List ℕ) → message_onto nothing_said l ≡ raw_of (Spec.reading l)
unfolding Spec.reading
sees-message l = sees-onto Spec.nothing l
