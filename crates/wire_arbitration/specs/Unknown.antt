-- A field that a message does not know changes nothing, in the message itself or in an embedded one. Assumes nothing.
use Rattle.std.specs.Prelude.{◌≡◌, refl, Bool, true, false, cond, not, ◌&&◌, ◌||◌, List, [], ◌++◌, ℕ, T, eqb, Ok, Err}
use Rattle.std.proofs.Common.{sym, ap, ap₂, ◌∙◌, true≢false, arith}
use Rattle.std.proofs.Math.Option.{Option, some}
use Rattle.wire_fields.specs.Numbers.{taken}
use Rattle.wire_fields.specs.Fields.{Field, varint, fixed, bytes, field}
use Rattle.wire_fields.specs.Messages.{Reading, and_then, mapped, message}
use Rattle.wire_fields.specs.Readers.{reads-field}
use Rattle.wire_fields.specs.Folding.{message-append, message-more, message-seen, message-skips}
use Rattle.wire_arbitration.specs.Update.{Update, no_role, no_election, no_status, nothing, scalar, in_role, in_election, in_status, or_else, embedded, with_role, with_election, with_status, took, reading}
use Rattle.wire_arbitration.specs.Merge.{unknown, is_scalar, unknown_in, Fields}

-- ---- in the message itself

none_of : (a b c : Bool) (r s t z : Reading Update) → T (not (a || b || c)) → cond a r (cond b s (cond c t z)) ≡ z
none_of false false false r s t z h = refl
none_of false false true r s t z h = elim h [ ]
none_of false true c r s t z h = elim h [ ]
none_of true b c r s t z h = elim h [ ]

not-this : (b : Bool) (new old : Option ℕ) → T (not b) → cond b new old ≡ old
not-this false new old h = refl
not-this true new old h = elim h [ ]

not_scalar : (n : ℕ) (f : Field) → T (not (is_scalar n f)) → (old : Option ℕ) → scalar n f old ≡ old
not_scalar n (varint k value) h old = not-this (eqb k n) _ old h
not_scalar n (fixed k) h old = refl
not_scalar n (bytes k held) h old = refl

says_nothing : (f : Field) → T (unknown f) → (u : Update) → took f u ≡ Ok u
says_nothing (varint k value) h u = ap (λ (d : Option ℕ). Ok (record { device = d; role = u.role; election = u.election; status = u.status })) (not_scalar 1 (varint k value) h u.device)
says_nothing (fixed k) h u = refl
says_nothing (bytes k held) h u = none_of (eqb k 2) (eqb k 3) (eqb k 4) _ _ _ (Ok u) h

-- y is one field, whole, behind a message that can be read.
pub unknown-field : (x y z : List ℕ) (f : Field) (u : Update) → reading x ≡ Ok u → field y ≡ taken f [] → T (unknown f) → reading (x ++ (y ++ z)) ≡ reading (x ++ z)
unfolding reading
unknown-field x y z f u p e h = message-skips took f (says_nothing f h) x y z nothing u p e

-- ---- in an embedded message

-- Whatever is made of fields can be read.
module _ {A : Type 0} (inside : Field → A → A) where
  abbrev table : Field → A → Reading A
  table f a = Ok (inside f a)

  record Reads (a : A) (l : List ℕ) : Type 0 where
    gives : A
    reads : message table a l ≡ Ok gives

  all_read : (l : List ℕ) → Fields l → (a : A) → Reads a l
  all_read l h a = go (message table a l) refl (message-seen table (λ f (n : ℕ). Ok n) (λ x. 0) (λ f x. refl) l a ∙ h)
    where
      go : (r : Reading A) → message table a l ≡ r → mapped {B = ℕ} (λ x. 0) r ≡ Ok 0 → Reads a l
      go (Ok b) e i = record { gives = b; reads = e }
      go (Err why) e i = let z : ◌≡◌ {A = ℕ} 0 1 = cc in absurd (omega arith)

  skipped-inside : (blank : A) (f : Field) → ((a : A) → inside f a ≡ a) → (p y q : List ℕ) → Fields p → field y ≡ taken f [] → (old : Option A)
      → embedded inside blank old (p ++ (y ++ q)) ≡ embedded inside blank old (p ++ q)
  skipped-inside blank f skips p y q h e old =
      let r = all_read p h (or_else blank old) in
      ap (mapped some) (message-skips table f (λ a. ap Ok (skips a)) p y q (or_else blank old) r.gives r.reads e)

neither-of : (b c d : Bool) → T (not (c || b && d)) → T (not c) × (b ≡ true → T (not d))
neither-of b true d t = absurd t
neither-of true false d t = (tt, λ i. t)
neither-of false false d t = (tt, λ i. absurd (true≢false (sym i)))

when-same : {A : Type 0} (b : Bool) {x x' y y' : A} → (b ≡ true → x ≡ x') → y ≡ y' → cond b x y ≡ cond b x' y'
when-same true e i = e refl
when-same false e i = i

took-inside : (k : ℕ) (f : Field) (p y q : List ℕ) → Fields p → field y ≡ taken f [] → T (unknown_in k f) → (u : Update) → took (bytes k (p ++ (y ++ q))) u ≡ took (bytes k (p ++ q)) u
took-inside k f p y q h e t u =
    let n = neither-of (eqb k 3) (is_scalar 1 f) (is_scalar 2 f) t in
    let one = not_scalar 1 f n.0 in
    when-same (eqb k 2) (λ i. ap (mapped (with_role u)) (skipped-inside in_role no_role f (λ r. ap (λ (x : Option ℕ). record { id = x }) (one r.id)) p y q h e u.role))
    (when-same (eqb k 3)
    (λ i. ap (mapped (with_election u))
    (skipped-inside in_election no_election f (λ r. ap₂ (λ (x v : Option ℕ). record { high = x; low = v }) (one r.high) (not_scalar 2 f (n.1 i) r.low)) p y q h e u.election))
    (when-same (eqb k 4) (λ i. ap (mapped (with_status u)) (skipped-inside in_status no_status f (λ r. ap (λ (x : Option ℕ). record { code = x }) (one r.code)) p y q h e u.status)) refl))

-- w and w' are one embedded message each, the same but for y: one field of it, whole, behind others that are.
pub unknown-inside : (x w w' z p y q : List ℕ) (k : ℕ) (f : Field) (u : Update) → reading x ≡ Ok u → field w ≡ taken (bytes k (p ++ (y ++ q))) [] → field w' ≡ taken (bytes k (p ++ q)) []
    → Fields p → field y ≡ taken f [] → T (unknown_in k f) → reading (x ++ (w ++ z)) ≡ reading (x ++ (w' ++ z))
unfolding reading
unknown-inside x w w' z p y q k f u front e e' h i t =
    message-append took x (w ++ z) nothing u front
    ∙ message-more took u (w ++ z) (bytes k (p ++ (y ++ q))) z (reads-field.longer w z (bytes k (p ++ (y ++ q))) [] e)
    ∙ ap (λ (r : Reading Update). and_then r (λ s. message took s z)) (took-inside k f p y q h i t u)
    ∙ sym (message-more took u (w' ++ z) (bytes k (p ++ q)) z (reads-field.longer w' z (bytes k (p ++ q)) [] e'))
    ∙ sym (message-append took x (w' ++ z) nothing u front)
