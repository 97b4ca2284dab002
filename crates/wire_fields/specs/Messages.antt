-- A message is its fields in order.
use Rattle.std.specs.Prelude.{List, [], ◌∷◌, ℕ, zero, suc, length, Result, Ok, Err}
use Rattle.wire_fields.specs.Numbers.{Fault, Taken, taken, fault}
use Rattle.wire_fields.specs.Fields.{Field, field}

-- What a whole message says, or its first fault from the front.
abbrev pub Reading : Type 0 → Type 0
Reading A = Result A Fault

abbrev pub and_then : {A B : Type 0} → Reading A → (A → Reading B) → Reading B
and_then (Ok a) next = next a
and_then (Err why) next = Err why

abbrev pub mapped : {A B : Type 0} → (A → B) → Reading A → Reading B
mapped h r = and_then r (λ a. Ok (h a))

-- `took f a`: what the field f makes of what the fields before it have given.
module _ {A : Type 0} (took : Field → A → Reading A) where
  abbrev pub onward : Taken Field → A → (A → List ℕ → Reading A) → Reading A
  onward (taken f rest) a next = and_then (took f a) (λ b. next b rest)
  onward (fault why) a next = Err why

  -- The fields from the front, each taken as it is reached. `most` bounds how many: a message has no more of them than bytes.
  unfoldable pub fields_in : ℕ → A → List ℕ → Reading A
  fields_in zero a l = Ok a
  fields_in (suc most) a [] = Ok a
  fields_in (suc most) a (b ∷ l) = onward (field (b ∷ l)) a (fields_in most)

  -- A message read on top of a.
  abbrev pub message : A → List ℕ → Reading A
  message a l = fields_in (length l) a l
