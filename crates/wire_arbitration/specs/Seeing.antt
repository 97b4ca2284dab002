-- What the code keeps is what the message says: scalar by scalar, embedded message by embedded message; `proofs/Seeing` has the whole message. Assumes nothing.
use Rattle.std.specs.Prelude.{◌≡◌, refl, List, ℕ, Ok, Err}
use Rattle.std.proofs.Common.{ap, ◌∙◌}
use Rattle.wire_fields.specs.declared.Fault.{Fault}
use Rattle.wire_fields.specs.Messages.{Reading, mapped, message}
use Rattle.wire_fields.specs.Places.{field_with, field_of}
use Rattle.wire_fields.specs.Folding.{message-seen}
use Rattle.wire_fields.specs.declared.Field as Placed
use Rattle.wire_fields.specs.declared.Held.{Held}
use Rattle.wire_fields.specs.declared.Held.TheVariants.{Varint, Fixed, Bytes}
use Rattle.wire_arbitration.specs.Raw.{see_scalar, last_held, last_at, see_first, see_two}
use Rattle.wire_arbitration.specs.declared.Pair.{Pair}
use Rattle.wire_arbitration.specs.declared.Raw.{Raw}

-- ---- one scalar

last-held : (message : List ℕ) (number next : ℕ) (held : Held) (n old : ℕ) → last_held held number n old ≡ see_scalar n (field_with message number next held) old
last-held message number next (Varint value) n old = refl
last-held message number next Fixed n old = refl
last-held message number next (Bytes start) n old = refl

pub last-scalar : (message : List ℕ) (f : Placed.Field) (n old : ℕ) → last_at f n old ≡ see_scalar n (field_of message f) old
last-scalar message f n old = last-held message f.number f.next f.held n old

-- ---- an embedded message

-- Of two scalars the first.
first_of : (t : Pair) (held : List ℕ) → mapped (λ (t : Pair). t.first) (message see_two t held) ≡ message see_first t.first held
first_of t held = message-seen see_two see_first (λ t. t.first) (λ f t. refl) held t

-- What was read as a pair is put into what was known, and a fault is handed on.
module _ (t : Pair) (held : List ℕ) where
  module _ (put : Pair → Raw) where
    pub sees-two : (p : Pair) → Ok p ≡ message see_two t held → Ok (put p) ≡ mapped put (message see_two t held)
    sees-two p is = ap (λ (r : Reading Pair). mapped put r) is

    pub loses-two : (why : Fault) → Err why ≡ message see_two t held → Err why ≡ mapped put (message see_two t held)
    loses-two why is = ap (λ (r : Reading Pair). mapped put r) is

  module _ (put : ℕ → Raw) where
    one-put : mapped (λ (t : Pair). put t.first) (message see_two t held) ≡ mapped put (message see_first t.first held)
    one-put = go (message see_two t held) ∙ ap (λ (r : Reading ℕ). mapped put r) (first_of t held)
      where
        go : (r : Reading Pair) → mapped (λ (t : Pair). put t.first) r ≡ mapped put (mapped (λ (t : Pair). t.first) r)
        go (Ok p) = refl
        go (Err why) = refl

    pub sees-one : (p : Pair) → Ok p ≡ message see_two t held → Ok (put p.first) ≡ mapped put (message see_first t.first held)
    sees-one p is = sees-two (λ p. put p.first) p is ∙ one-put

    pub loses-one : (why : Fault) → Err why ≡ message see_two t held → Err why ≡ mapped put (message see_first t.first held)
    loses-one why is = loses-two (λ p. put p.first) why is ∙ one-put
