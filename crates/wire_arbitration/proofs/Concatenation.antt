-- Protobuf's own rule: two messages one after the other are read as the merge of what each says. Assumes nothing.
use Rattle.std.specs.Prelude.{◌≡◌, Bool, true, false, cond, List, ◌++◌, ℕ, eqb, Ok, Err}
use Rattle.std.proofs.Math.Path.{refl, ap}
use Rattle.std.proofs.Common.{sym, ap₂, ◌∙◌}
use Rattle.std.proofs.Math.Option.{Option, none, some}
use Rattle.wire_fields.specs.Fields.{Field, varint, fixed, bytes}
use Rattle.wire_fields.specs.Messages.{Reading, mapped, message}
use Rattle.wire_fields.specs.Folding.{message-append, message-seen}
use Rattle.wire_arbitration.specs.Update.{Role, Uint128, Status, Update, no_role, no_election, no_status, nothing, scalar, in_role, in_election, in_status, or_else, embedded, with_role, with_election, with_status, took, reading}
use Rattle.wire_arbitration.specs.Merge.{later, merge_role, merge_election, merge_status, both, merge}
use Rattle.wire_arbitration.specs.Choices.{either_same}

later-if : (b : Bool) (value : ℕ) (old new : Option ℕ) → later old (cond b (some value) new) ≡ cond b (some value) (later old new)
later-if true value old new = refl
later-if false value old new = refl

later-scalar : (n : ℕ) (f : Field) (old new : Option ℕ) → later old (scalar n f new) ≡ scalar n f (later old new)
later-scalar n (varint k value) old new = later-if (eqb k n) value old new
later-scalar n (fixed k) old new = refl
later-scalar n (bytes k held) old new = refl

later-none : (new : Option ℕ) → later none new ≡ new
later-none none = refl
later-none (some value) = refl

-- ---- an embedded message

-- How one kind of embedded message is read and merged.
record Kind (A : Type 0) : Type 0 where
  inside : Field → A → A
  blank : A
  join : A → A → A
  each : (old : A) (f : Field) (new : A) → join old (inside f new) ≡ inside f (join old new)
  left : (new : A) → join blank new ≡ new
  right : (old : A) → join old blank ≡ old

roles : Kind Role
roles = record {
  inside = in_role;
  blank = no_role;
  join = merge_role;
  each = λ old f new. ap (λ (x : Option ℕ). record { id = x }) (later-scalar 1 f old.id new.id);
  left = λ new. ap (λ (x : Option ℕ). record { id = x }) (later-none new.id);
  right = λ old. refl;
}

elections : Kind Uint128
elections = record {
  inside = in_election;
  blank = no_election;
  join = merge_election;
  each = λ old f new. ap₂ (λ (x y : Option ℕ). record { high = x; low = y }) (later-scalar 1 f old.high new.high) (later-scalar 2 f old.low new.low);
  left = λ new. ap₂ (λ (x y : Option ℕ). record { high = x; low = y }) (later-none new.high) (later-none new.low);
  right = λ old. refl;
}

statuses : Kind Status
statuses = record {
  inside = in_status;
  blank = no_status;
  join = merge_status;
  each = λ old f new. ap (λ (x : Option ℕ). record { code = x }) (later-scalar 1 f old.code new.code);
  left = λ new. ap (λ (x : Option ℕ). record { code = x }) (later-none new.code);
  right = λ old. refl;
}

module _ {A : Type 0} (k : Kind A) where
  on-top : (old new : Option A) → k.join (or_else k.blank old) (or_else k.blank new) ≡ or_else k.blank (both k.join old new)
  on-top old none = k.right (or_else k.blank old)
  on-top none (some new) = k.left new
  on-top (some old) (some new) = refl

  present : (old : Option A) (new : A) → some (k.join (or_else k.blank old) new) ≡ both k.join old (some new)
  present none new = ap some (k.left new)
  present (some old) new = refl

  embedded-merged : (old new : Option A) (held : List ℕ)
      → mapped (both k.join old) (embedded k.inside k.blank new held) ≡ embedded k.inside k.blank (both k.join old new) held
  embedded-merged old new held =
      go (message table (or_else k.blank new) held)
      ∙ ap (mapped some) (message-seen table table (k.join under) (λ f a. ap Ok (k.each under f a)) held (or_else k.blank new))
      ∙ ap (λ (a : A). mapped some (message table a held)) (on-top old new)
    where
      table : Field → A → Reading A
      table f a = Ok (k.inside f a)

      under : A
      under = or_else k.blank old

      go : (r : Reading A) → mapped (both k.join old) (mapped some r) ≡ mapped some (mapped (k.join under) r)
      go (Ok a) = ap Ok (sym (present old a))
      go (Err why) = refl

-- ---- the whole message

module _ (u : Update) where
  -- With one embedded message read, the others stay.
  one : {A : Type 0} (k : Kind A) (v : Update) (put : Update → Option A → Update) (old new : Option A) (held : List ℕ)
      → ((x : Option A) → merge u (put v x) ≡ put (merge u v) (both k.join old x))
      → mapped (merge u) (mapped (put v) (embedded k.inside k.blank new held)) ≡ mapped (put (merge u v)) (embedded k.inside k.blank (both k.join old new) held)
  one {A} k v put old new held e = go (embedded k.inside k.blank new held) ∙ ap (mapped (put (merge u v))) (embedded-merged k old new held)
    where
      go : (r : Reading (Option A)) → mapped (merge u) (mapped (put v) r) ≡ mapped (put (merge u v)) (mapped (both k.join old) r)
      go (Ok x) = ap Ok (e x)
      go (Err why) = refl

  took-merged : (f : Field) (v : Update) → mapped (merge u) (took f v) ≡ took f (merge u v)
  unfolding roles elections statuses
  took-merged (varint k value) v =
      ap (λ (d : Option ℕ). Ok (record { device = d; role = (merge u v).role; election = (merge u v).election; status = (merge u v).status })) (later-scalar 1 (varint k value) u.device v.device)
  took-merged (fixed k) v = refl
  took-merged (bytes k held) v =
      either_same (mapped (merge u)) (eqb k 2) (one roles v with_role u.role v.role held (λ x. refl))
      (either_same (mapped (merge u)) (eqb k 3) (one elections v with_election u.election v.election held (λ x. refl))
      (either_same (mapped (merge u)) (eqb k 4) (one statuses v with_status u.status v.status held (λ x. refl)) refl))

pub concatenation : (x y : List ℕ) (u v : Update) → reading x ≡ Ok u → reading y ≡ Ok v → reading (x ++ y) ≡ Ok (merge u v)
unfolding reading
concatenation x y u v p q = message-append took x y nothing u p ∙ sym (message-seen took took (merge u) (took-merged u) y nothing) ∙ ap (mapped (merge u)) q
