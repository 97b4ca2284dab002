-- Tests of equality for what a situation looks at: where the test holds, the two are equal. Assumes nothing.
use Rattle.std.specs.Prelude.{◌≡◌, Bool, true, false, cond, ◌&&◌, ℕ, T, eqb}
use Rattle.std.proofs.Math.Path.{refl, ap₂}
use Rattle.std.proofs.Common.{sym, ap, ◌∙◌, eqb→eq}
use mathlib.Core.List.{List, [], ◌∷◌}
use Rattle.rules.specs.State.{Mastership, Message, update, write, Status, ok, already_exists, not_found, permission_denied, Request, Response, Write}
use Rattle.rules_laws.specs.Tests.{◌&◌, as-is}

pub record Equality (A : Type 0) : Type 0 where
  pub test : A → A → Bool
  pub sound : (x y : A) → T (test x y) → x ≡ y

abbrev pub number : Equality ℕ
number = record { test = eqb; sound = eqb→eq }

module _ {A B : Type 0} where
  abbrev pub pair : Equality A → Equality B → Equality (A × B)
  pair a b = record {
    test = λ x y. a.test x.0 y.0 && b.test x.1 y.1;
    sound = λ x y h.
        let t = (as-is (a.test x.0 y.0) & as-is (b.test x.1 y.1)).to h in
        ap₂ (λ u v. (u, v)) (a.sound x.0 y.0 t.0) (b.sound x.1 y.1 t.1);
  }

  -- Equal where the codes are, since a code can be read back.
  abbrev pub coded : Equality B → (f : A → B) (g : B → A) → ((x : A) → g (f x) ≡ x) → Equality A
  coded b f g back = record { test = λ x y. b.test (f x) (f y); sound = λ x y h. sym (back x) ∙ ap g (b.sound (f x) (f y) h) ∙ back y }

module _ {A : Type 0} (a : Equality A) where
  unfoldable pub same_all : List A → List A → Bool
  same_all [] [] = true
  same_all [] (y ∷ ys) = false
  same_all (x ∷ xs) [] = false
  same_all (x ∷ xs) (y ∷ ys) = a.test x y && same_all xs ys

  pub same-all : (xs ys : List A) → T (same_all xs ys) → xs ≡ ys
  unfolding same_all
  same-all [] [] h = refl
  same-all [] (y ∷ ys) h = absurd h
  same-all (x ∷ xs) [] h = absurd h
  same-all (x ∷ xs) (y ∷ ys) h =
      let t = (as-is (a.test x y) & as-is (same_all xs ys)).to h in
      ap₂ (λ u v. u ∷ v) (a.sound x y t.0) (same-all xs ys t.1)

  abbrev pub list : Equality (List A)
  list = record { test = same_all; sound = same-all }

-- ---- what stands in a state

abbrev pub flag_code : Bool → ℕ
flag_code b = cond b 1 0

pub flag-back : (b : Bool) → eqb (flag_code b) 1 ≡ b
flag-back true = refl
flag-back false = refl

abbrev pub flag : Equality Bool
flag = coded number flag_code (λ k. eqb k 1) flag-back

abbrev pub message_code : Message → ℕ
message_code update = 0
message_code write = 1

pub message-back : (m : Message) → cond (eqb (message_code m) 0) update write ≡ m
message-back update = refl
message-back write = refl

abbrev pub message : Equality Message
message = coded number message_code (λ k. cond (eqb k 0) update write) message-back

abbrev pub status_code : Status → ℕ
status_code ok = 0
status_code already_exists = 1
status_code not_found = 2
status_code permission_denied = 3

abbrev pub status_of : ℕ → Status
status_of k = cond (eqb k 0) ok (cond (eqb k 1) already_exists (cond (eqb k 2) not_found permission_denied))

pub status-back : (s : Status) → status_of (status_code s) ≡ s
status-back ok = refl
status-back already_exists = refl
status-back not_found = refl
status-back permission_denied = refl

abbrev pub status : Equality Status
status = coded number status_code status_of status-back

abbrev pub written : Equality Write
written = coded (pair number number) (λ w. (w.node, w.term)) (λ c. record { node = c.0; term = c.1 }) (λ w. refl)

abbrev pub request : Equality Request
request =
    coded (pair message (pair number number))
    (λ r. (r.message, (r.id, r.term)))
    (λ c. record { message = c.0; id = c.1.0; term = c.1.1 }) (λ r. refl)

abbrev pub response : Equality Response
response =
    coded (pair message (pair status number))
    (λ r. (r.message, (r.status, r.id)))
    (λ c. record { message = c.0; status = c.1.0; id = c.1.1 }) (λ r. refl)

abbrev pub mastership : Equality Mastership
mastership =
    coded (pair number (pair number (list number)))
    (λ m. (m.term, (m.master, m.backups)))
    (λ c. record { term = c.0; master = c.1.0; backups = c.1.1 }) (λ m. refl)
