-- A loop over the fields of a message. Assumes nothing.
use Rattle.std.specs.Prelude.{◌≡◌, refl, List, ℕ, ◌≤◌, ◌<◌, length, drop, Ok, Err}
use Rattle.std.proofs.Common.{ap, ◌∙◌, arith, length-drop, drop_of_length-le}
use Rattle.wire_fields.specs.Fields as Fields
use Rattle.wire_fields.specs.Numbers.{Fault}
use Rattle.wire_fields.specs.Messages.{Reading, and_then, message}
use Rattle.wire_fields.specs.Places.{field_at, field_of}
use Rattle.wire_fields.specs.Found.{FoundField, no-field}
use Rattle.wire_fields.specs.Folding.{message-none, message-more, message-fault}
use Rattle.wire_fields.specs.declared.Field.{Field}

module _ {A : Type 0} (took : Fields.Field → A → Reading A) (l : List ℕ) (start : A) where
  -- The fields before the place have given `a`, and those from there on are still to be taken.
  pub record Walking (a : A) (at : ℕ) : Type 0 where
    pub inside : at ≤ length l
    pub so_far : message took start l ≡ message took a (drop at l)

  pub walking-starts : Walking start 0
  walking-starts = record { inside = omega arith; so_far = refl }

  module _ {a : A} {at : ℕ} (w : Walking a at) where
    pub walking-ends : length l ≤ at → message took start l ≡ Ok a
    walking-ends h = w.so_far ∙ ap (message took a) (drop_of_length-le l h) ∙ message-none took a

    module _ (more : at < length l) where
      pub walking-faults : (why : Fault) → field_at l at ≡ Err why → message took start l ≡ Err why
      walking-faults why is = w.so_far ∙ message-fault took a (drop at l) why (let n = length-drop at l in omega arith) (no-field l at why is)

      module _ (r : Field) (found : FoundField l at r) where
        taken-on : (b : Reading A) → took (field_of l r) a ≡ b → message took start l ≡ and_then b (λ x. message took x (drop r.next l))
        taken-on b e = w.so_far ∙ message-more took a (drop at l) (field_of l r) (drop r.next l) found.stands ∙ ap (λ (b : Reading A). and_then b (λ x. message took x (drop r.next l))) e

        pub walking_on : (b : A) → took (field_of l r) a ≡ Ok b → Walking b r.next
        walking_on b e = record { inside = found.within.1; so_far = taken-on (Ok b) e }

        pub walking-breaks : (why : Fault) → took (field_of l r) a ≡ Err why → message took start l ≡ Err why
        walking-breaks why e = taken-on (Err why) e
