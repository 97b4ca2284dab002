-- A message field by field: from the front, in two parts, and through a view of what is read. Assumes nothing.
use Rattle.std.specs.Prelude.{◌≡◌, length, Ok, Err}
use Rattle.std.proofs.Math.Path.{refl}
use Rattle.std.proofs.Common.{sym, ap, ◌∙◌, arith}
use mathlib.Core.List.{List, [], ◌∷◌, ◌++◌}
use Prim.Native.Nat.{ℕ, zero, suc, ◌<◌, ◌≤◌}
use Rattle.wire_fields.specs.Numbers.{Fault, CutShort, Taken, taken, fault, number_in}
use Rattle.wire_fields.specs.Fields.{Field, field}
use Rattle.wire_fields.specs.Messages.{Reading, and_then, mapped, onward, fields_in, message}
use Rattle.wire_fields.specs.Readers.{no-fault, no-ok, same-ok, reads-field, field-shorter}

field-none : field [] ≡ fault CutShort
unfolding field number_in
field-none = refl

-- By the number of bytes.
pub by_length : (P : List ℕ → Type 0) → ((l : List ℕ) → ((rest : List ℕ) → length rest < length l → P rest) → P l) → (l : List ℕ) → P l
by_length P step l = go (length l) l (omega arith)
  where
    go : (n : ℕ) (l : List ℕ) → length l ≤ n → P l
    go zero l h = step l (λ rest less. absurd (omega arith))
    go (suc n) l h = step l (λ rest less. go n rest (omega arith))

then_same : {A B : Type 0} {p q : A → Reading B} (r : Reading A) → ((a : A) → p a ≡ q a) → and_then r p ≡ and_then r q
then_same (Ok a) e = e a
then_same (Err why) e = refl

module _ {A : Type 0} (took : Field → A → Reading A) where
  -- ---- the next field

  onward-same : (l : List ℕ) (a : A) (p q : A → List ℕ → Reading A) → ((x : A) (rest : List ℕ) → length rest < length l → p x rest ≡ q x rest)
      → onward took (field l) a p ≡ onward took (field l) a q
  onward-same l a p q e = go (field l) refl
    where
      go : (t : Taken Field) → field l ≡ t → onward took t a p ≡ onward took t a q
      go (taken f rest) h = then_same (took f a) (λ x. e x rest (field-shorter l f rest h))
      go (fault why) h = refl

  -- No bound matters that is large enough.
  enough : (n m : ℕ) (a : A) (l : List ℕ) → length l ≤ n → length l ≤ m → fields_in took n a l ≡ fields_in took m a l
  unfolding fields_in
  enough zero zero a l hn hm = refl
  enough zero (suc m) a [] hn hm = refl
  enough zero (suc m) a (b ∷ l) hn hm = absurd (omega arith)
  enough (suc n) zero a [] hn hm = refl
  enough (suc n) zero a (b ∷ l) hn hm = absurd (omega arith)
  enough (suc n) (suc m) a [] hn hm = refl
  enough (suc n) (suc m) a (b ∷ l) hn hm = onward-same (b ∷ l) a (fields_in took n) (fields_in took m) (λ x rest less. enough n m x rest (omega arith) (omega arith))

  message-next : (a : A) (b : ℕ) (l : List ℕ) → message took a (b ∷ l) ≡ onward took (field (b ∷ l)) a (message took)
  unfolding fields_in
  message-next a b l = onward-same (b ∷ l) a (fields_in took (length l)) (message took) (λ x rest less. enough (length l) (length rest) x rest (omega arith) (omega arith))

  pub message-none : (a : A) → message took a [] ≡ Ok a
  unfolding fields_in
  message-none a = refl

  pub message-more : (a : A) (l : List ℕ) (f : Field) (rest : List ℕ) → field l ≡ taken f rest → message took a l ≡ and_then (took f a) (λ x. message took x rest)
  message-more a [] f rest e = absurd (no-fault (sym field-none ∙ e))
  message-more a (b ∷ l) f rest e = message-next a b l ∙ ap (λ (t : Taken Field). onward took t a (message took)) e

  pub message-fault : (a : A) (l : List ℕ) (why : Fault) → 0 < length l → field l ≡ fault why → message took a l ≡ Err why
  message-fault a [] why some e = absurd (omega arith)
  message-fault a (b ∷ l) why some e = message-next a b l ∙ ap (λ (t : Taken Field). onward took t a (message took)) e

  -- ---- a message in two parts: the second is read on top of what the first gave

  pub message-append : (l y : List ℕ) (a b : A) → message took a l ≡ Ok b → message took a (l ++ y) ≡ message took b y
  message-append l y = by_length (λ l. (a b : A) → message took a l ≡ Ok b → message took a (l ++ y) ≡ message took b y) step l
    where
      step : (l : List ℕ) → ((rest : List ℕ) → length rest < length l → (a b : A) → message took a rest ≡ Ok b → message took a (rest ++ y) ≡ message took b y)
          → (a b : A) → message took a l ≡ Ok b → message took a (l ++ y) ≡ message took b y
      step [] ih a b e = let same : a ≡ b = same-ok (sym (message-none a) ∙ e) in ap (λ (x : A). message took x y) same
      step (c ∷ l) ih a b e = front (field (c ∷ l)) refl
        where
          rest_of : (f : Field) (rest : List ℕ) → length rest < length (c ∷ l) → (r : Reading A)
              → and_then r (λ x. message took x rest) ≡ Ok b → and_then r (λ x. message took x (rest ++ y)) ≡ message took b y
          rest_of f rest less (Ok x) h = ih rest less x b h
          rest_of f rest less (Err why) h = absurd (no-ok (sym h))

          front : (t : Taken Field) → field (c ∷ l) ≡ t → message took a ((c ∷ l) ++ y) ≡ message took b y
          front (taken f rest) h =
              message-more a ((c ∷ l) ++ y) f (rest ++ y) (reads-field.longer (c ∷ l) y f rest h)
              ∙ rest_of f rest (field-shorter (c ∷ l) f rest h) (took f a) (sym (message-more a (c ∷ l) f rest h) ∙ e)
          front (fault why) h = absurd (no-ok (sym e ∙ message-fault a (c ∷ l) why (omega arith) h))

-- ---- what is seen of a message, if it is seen of each field

module _ {A B : Type 0} (took : Field → A → Reading A) (see : Field → B → Reading B) (view : A → B)
    (each : (f : Field) (a : A) → mapped view (took f a) ≡ see f (view a)) where
  pub message-seen : (l : List ℕ) (a : A) → mapped view (message took a l) ≡ message see (view a) l
  message-seen = by_length (λ l. (a : A) → mapped view (message took a l) ≡ message see (view a) l) step
    where
      step : (l : List ℕ) → ((rest : List ℕ) → length rest < length l → (a : A) → mapped view (message took a rest) ≡ message see (view a) rest)
          → (a : A) → mapped view (message took a l) ≡ message see (view a) l
      step [] ih a = ap (mapped view) (message-none took a) ∙ sym (message-none see (view a))
      step (c ∷ l) ih a = front (field (c ∷ l)) refl
        where
          rest_of : (rest : List ℕ) → length rest < length (c ∷ l) → (r : Reading A) (s : Reading B) → mapped view r ≡ s
              → mapped view (and_then r (λ x. message took x rest)) ≡ and_then s (λ x. message see x rest)
          rest_of rest less (Ok x) s e = ih rest less x ∙ ap (λ (s : Reading B). and_then s (λ x. message see x rest)) e
          rest_of rest less (Err why) s e = ap (λ (s : Reading B). and_then s (λ x. message see x rest)) e

          front : (t : Taken Field) → field (c ∷ l) ≡ t → mapped view (message took a (c ∷ l)) ≡ message see (view a) (c ∷ l)
          front (taken f rest) h =
              ap (mapped view) (message-more took a (c ∷ l) f rest h)
              ∙ rest_of rest (field-shorter (c ∷ l) f rest h) (took f a) (see f (view a)) (each f a)
              ∙ sym (message-more see (view a) (c ∷ l) f rest h)
          front (fault why) h = ap (mapped view) (message-fault took a (c ∷ l) why (omega arith) h) ∙ sym (message-fault see (view a) (c ∷ l) why (omega arith) h)

-- ---- a field that is skipped, wherever it stands, changes nothing

module _ {A : Type 0} (took : Field → A → Reading A) (f : Field) (skipped : (a : A) → took f a ≡ Ok a) where
  pub message-skips : (x y z : List ℕ) (a b : A) → message took a x ≡ Ok b → field y ≡ taken f [] → message took a (x ++ (y ++ z)) ≡ message took a (x ++ z)
  message-skips x y z a b front e =
      message-append took x (y ++ z) a b front
      ∙ message-more took b (y ++ z) f z (reads-field.longer y z f [] e)
      ∙ ap (λ (r : Reading A). and_then r (λ s. message took s z)) (skipped b)
      ∙ sym (message-append took x z a b front)
