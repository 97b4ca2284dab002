-- What is read at the front of bytes does not depend on those behind it. Assumes nothing.
use Rattle.std.specs.Prelude.{◌≡◌, refl, Bool, true, false, cond, List, [], ◌∷◌, ◌++◌, ℕ, zero, suc, ◌+◌, ◌*◌, ◌%◌, ◌/◌, ◌<◌, ◌≤◌, leb, ltb, eqb, length, take, drop, Result, Ok, Err}
use Rattle.std.proofs.Common.{sym, ap, ◌∙◌, arith, length-append, length-drop, take-append-drop, drop-drop, leb-true, le-leb}
use Rattle.std.proofs.lemmas.List.{take-append-le, drop-append-le}
use Rattle.wire_fields.specs.Numbers.{Fault, Taken, taken, fault, CutShort, TooLarge, BadTag, after, number_in, number}
use Rattle.wire_fields.specs.Fields.{Field, varint, fixed, bytes, part, part_as, content, is_number, tagged, field}

pub no-fault : {A : Type 0} {why : Fault} {a : A} {rest : List ℕ} → fault why ≡ taken a rest → ⊥
no-fault e = let z : ◌≡◌ {A = ℕ} 0 1 = cc in omega arith

pub no-ok : {A E : Type 0} {a : A} {e : E} → ◌≡◌ {A = Result A E} (Ok a) (Err e) → ⊥
no-ok p = let z : ◌≡◌ {A = ℕ} 0 1 = cc in omega arith

pub same-ok : {A E : Type 0} {a b : A} → ◌≡◌ {A = Result A E} (Ok a) (Ok b) → a ≡ b
same-ok p = cc

pub same-err : {A E : Type 0} {e f : E} → ◌≡◌ {A = Result A E} (Err e) (Err f) → e ≡ f
same-err p = cc

-- The bytes behind what was read are the end of all.
pub record Behind (l rest : List ℕ) : Type 0 where
  pub used : ℕ
  pub inside : used ≤ length l
  pub same : rest ≡ drop used l

behind-then : {l mid rest : List ℕ} → Behind l mid → Behind mid rest → Behind l rest
behind-then {l} p q = record {
  used = p.used + q.used;
  inside = let n = length-drop p.used l in let m = ap length p.same in let i = q.inside in let k = p.inside in omega arith;
  same = q.same ∙ ap (drop q.used) p.same ∙ drop-drop q.used p.used l;
}

-- Bytes that follow change nothing but what is left.
pub record Reader {A : Type 0} (R : List ℕ → Taken A) : Type 0 where
  pub behind : (l : List ℕ) (a : A) (rest : List ℕ) → R l ≡ taken a rest → Behind l rest
  pub longer : (l y : List ℕ) (a : A) (rest : List ℕ) → R l ≡ taken a rest → R (l ++ y) ≡ taken a (rest ++ y)

reads_nothing : {A : Type 0} (a : A) → Reader (taken a)
reads_nothing a = record {
  behind = λ l b rest e. record { used = 0; inside = omega arith; same = cc };
  longer = λ l y b rest e. cc;
}

reads-fault : {A : Type 0} (why : Fault) → Reader {A = A} (λ l. fault why)
reads-fault why = record { behind = λ l b rest e. absurd (no-fault e); longer = λ l y b rest e. absurd (no-fault e) }

reads-either : {A : Type 0} {R S : List ℕ → Taken A} (b : Bool) → Reader R → Reader S → Reader (λ l. cond b (R l) (S l))
reads-either true r s = r
reads-either false r s = s

module _ {A B : Type 0} {R : List ℕ → Taken A} {S : A → List ℕ → Taken B} (r : Reader R) (s : (a : A) → Reader (S a)) where
  reads-after : Reader (λ l. after (R l) S)
  reads-after = record { behind = λ l b rest e. first l b rest (R l) refl e; longer = λ l y b rest e. second l y b rest (R l) refl e }
    where
      first : (l : List ℕ) (b : B) (rest : List ℕ) (t : Taken A) → R l ≡ t → after t S ≡ taken b rest → Behind l rest
      first l b rest (taken a mid) e f = behind-then (r.behind l a mid e) ((s a).behind mid b rest f)
      first l b rest (fault why) e f = absurd (no-fault f)

      second : (l y : List ℕ) (b : B) (rest : List ℕ) (t : Taken A) → R l ≡ t → after t S ≡ taken b rest → after (R (l ++ y)) S ≡ taken b (rest ++ y)
      second l y b rest (taken a mid) e f = rw (r.longer l y a mid e) ((s a).longer mid y b rest f)
      second l y b rest (fault why) e f = absurd (no-fault f)

-- By the first byte.
module _ {A : Type 0} (R : List ℕ → Taken A) {why : Fault} (none : R [] ≡ fault why) (some : (b : ℕ) → Reader (λ l. R (b ∷ l))) where
  pub shorter : (l : List ℕ) (a : A) (rest : List ℕ) → R l ≡ taken a rest → length rest < length l
  shorter [] a rest e = absurd (no-fault (sym none ∙ e))
  shorter (b ∷ l) a rest e =
      let p = (some b).behind l a rest e in
      let n = length-drop p.used l in
      let m = ap length p.same in
      omega arith

  reads_byte : Reader R
  reads_byte = record { behind = first; longer = second }
    where
      first : (l : List ℕ) (a : A) (rest : List ℕ) → R l ≡ taken a rest → Behind l rest
      first [] a rest e = absurd (no-fault (sym none ∙ e))
      first (b ∷ l) a rest e =
          let p = (some b).behind l a rest e in
          let i = p.inside in
          record { used = suc p.used; inside = omega arith; same = p.same }

      second : (l y : List ℕ) (a : A) (rest : List ℕ) → R l ≡ taken a rest → R (l ++ y) ≡ taken a (rest ++ y)
      second [] y a rest e = absurd (no-fault (sym none ∙ e))
      second (b ∷ l) y a rest e = (some b).longer l y a rest e

-- ---- numbers

number-none : (more : ℕ) → number_in more [] ≡ fault CutShort
unfolding number_in
number-none more = refl

number-byte : (more b : ℕ) → Reader (λ l. number_in more (b ∷ l))
unfolding number_in
number-byte zero b = reads-either (leb b 1) (reads_nothing b) (reads-fault TooLarge)
number-byte (suc more) b = reads-either (ltb b 128) (reads_nothing b) (reads-after (reads_byte (number_in more) (number-none more) (number-byte more)) (λ high. reads_nothing (b % 128 + 128 * high)))

pub reads-number : Reader number
reads-number = reads_byte number (number-none 9) (number-byte 9)

pub number-shorter : (l : List ℕ) (value : ℕ) (rest : List ℕ) → number l ≡ taken value rest → length rest < length l
number-shorter = shorter number (number-none 9) (number-byte 9)

-- ---- fields

reads-part : (n : ℕ) → Reader (part n)
unfolding part
reads-part n = record { behind = λ l a rest e. first l a rest (leb n (length l)) refl e; longer = λ l y a rest e. second l y a rest (leb n (length l)) refl e }
  where
    first : (l a rest : List ℕ) (b : Bool) → leb n (length l) ≡ b → cond b (taken (take n l) (drop n l)) (fault CutShort) ≡ taken a rest → Behind l rest
    first l a rest true h e = record { used = n; inside = leb-true _ _ h; same = cc }
    first l a rest false h e = absurd (no-fault e)

    second : (l y a rest : List ℕ) (b : Bool) → leb n (length l) ≡ b → cond b (taken (take n l) (drop n l)) (fault CutShort) ≡ taken a rest → part n (l ++ y) ≡ taken a (rest ++ y)
    second l y a rest true h e =
        let k = leb-true n (length l) h in
        let long = length-append l y in
        rw (le-leb n (length (l ++ y)) (omega arith), take-append-le n l y k, drop-append-le n l y k) (cc)
    second l y a rest false h e = absurd (no-fault e)

reads-content : (wire n : ℕ) → Reader (content wire n)
unfolding content
reads-content wire n =
    reads-either (eqb wire 0) (reads-after reads-number (λ value. reads_nothing (varint n value)))
    (reads-either (eqb wire 1) (reads-after (reads-part 8) (λ skipped. reads_nothing (fixed n)))
    (reads-either (eqb wire 2) (reads-after reads-number (λ size. reads-after (reads-part size) (λ held. reads_nothing (bytes n held))))
    (reads-either (eqb wire 5) (reads-after (reads-part 4) (λ skipped. reads_nothing (fixed n))) (reads-fault BadTag))))

reads-tagged : (tag : ℕ) → Reader (tagged tag)
unfolding tagged
reads-tagged tag = reads-either (is_number (tag / 8)) (reads-content (tag % 8) (tag / 8)) (reads-fault BadTag)

pub reads-field : Reader field
unfolding field
reads-field = reads-after reads-number reads-tagged

pub field-shorter : (l : List ℕ) (f : Field) (rest : List ℕ) → field l ≡ taken f rest → length rest < length l
unfolding field
field-shorter l f rest e = go (number l) refl e
  where
    go : (t : Taken ℕ) → number l ≡ t → after t tagged ≡ taken f rest → length rest < length l
    go (taken tag mid) e f' =
        let less = number-shorter l tag mid e in
        let p = (reads-tagged tag).behind mid f rest f' in
        let n = length-drop p.used mid in
        let m = ap length p.same in
        omega arith
    go (fault why) e f' = absurd (no-fault f')

-- ---- the bytes that a field holds stand right before those behind it

pub record Holding (R : List ℕ → Taken Field) : Type 0 where
  pub before : (l : List ℕ) (n : ℕ) (held rest : List ℕ) → R l ≡ taken (bytes n held) rest → Behind l (held ++ rest)

holds-either : {R S : List ℕ → Taken Field} (b : Bool) → Holding R → Holding S → Holding (λ l. cond b (R l) (S l))
holds-either true r s = r
holds-either false r s = s

holds-fault : (why : Fault) → Holding (λ l. fault why)
holds-fault why = record { before = λ l n held rest e. absurd (no-fault e) }

holds-varint : (n value : ℕ) → Holding (taken (varint n value))
holds-varint n value = record { before = λ l k held rest e. let z : ◌≡◌ {A = ℕ} 0 1 = cc in absurd (omega arith) }

holds-fixed : (n : ℕ) → Holding (taken (fixed n))
holds-fixed n = record { before = λ l k held rest e. let z : ◌≡◌ {A = ℕ} 0 1 = cc in absurd (omega arith) }

holds_after : {A : Type 0} {R : List ℕ → Taken A} {S : A → List ℕ → Taken Field} → Reader R → ((a : A) → Holding (S a)) → Holding (λ l. after (R l) S)
holds_after {A} {R} {S} r s = record { before = λ l n held rest e. go l n held rest (R l) refl e }
  where
    go : (l : List ℕ) (n : ℕ) (held rest : List ℕ) (t : Taken A) → R l ≡ t → after t S ≡ taken (bytes n held) rest → Behind l (held ++ rest)
    go l n held rest (taken a mid) e f = behind-then (r.behind l a mid e) ((s a).before mid n held rest f)
    go l n held rest (fault why) e f = absurd (no-fault f)

holds-part : (n size : ℕ) → Holding (part_as n size)
unfolding part
holds-part n size = record { before = λ l k held rest e. go l k held rest (leb size (length l)) e }
  where
    go : (l : List ℕ) (k : ℕ) (held rest : List ℕ) (b : Bool) → after (cond b (taken (take size l) (drop size l)) (fault CutShort)) (λ held rest. taken (bytes n held) rest) ≡ taken (bytes k held) rest
        → Behind l (held ++ rest)
    go l k held rest true e =
        let front : take size l ≡ held = cc in
        let back : drop size l ≡ rest = cc in
        record { used = 0; inside = omega arith; same = rw (← front, ← back) (take-append-drop size l) }
    go l k held rest false e = absurd (no-fault e)

holds-content : (wire n : ℕ) → Holding (content wire n)
unfolding content
holds-content wire n =
    holds-either (eqb wire 0) (holds_after reads-number (holds-varint n))
    (holds-either (eqb wire 1) (holds_after (reads-part 8) (λ skipped. holds-fixed n))
    (holds-either (eqb wire 2) (holds_after reads-number (holds-part n))
    (holds-either (eqb wire 5) (holds_after (reads-part 4) (λ skipped. holds-fixed n)) (holds-fault BadTag))))

holds-tagged : (tag : ℕ) → Holding (tagged tag)
unfolding tagged
holds-tagged tag = holds-either (is_number (tag / 8)) (holds-content (tag % 8) (tag / 8)) (holds-fault BadTag)

pub holds-field : Holding field
unfolding field
holds-field = holds_after reads-number holds-tagged
