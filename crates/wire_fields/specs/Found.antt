-- What the code's structs say of what stands at a place. Assumes nothing.
use Rattle.std.specs.Prelude.{◌≡◌, ◌≢◌, Bool, true, false, leb, length, take, drop, slice_get, Some, Ok, Err}
use Rattle.std.proofs.Math.Path.{refl, sym, ap}
use Rattle.std.proofs.Common.{ap₂, subst, ◌∙◌, length-append, drop-drop, length-take-le, le-leb, leb-true, leb-false}
use mathlib.Core.List.{List}
use Prim.Native.Nat.{ℕ, ◌+◌, ◌-◌, ◌*◌, ◌/◌, ◌%◌, ◌<◌, ◌≤◌}
use native.Mathlib.Omega.{arith}
use Rattle.std.proofs.Math.ListN.{length-drop}
use Rattle.std.proofs.Math.Seq.{take-append_seam}
use Rattle.std.proofs.lemmas.Bool.{lt-leb}
use Rattle.wire_fields.specs.Numbers.{Fault, CutShort, TooLarge, BadTag, code_of, Taken, taken, fault, after, number}
use Rattle.wire_fields.specs.Fields as Fields
use Rattle.wire_fields.specs.Fields.{varint, fixed, bytes, part, as_varint, as_fixed, part_as, as_bytes, content, last_number, tagged, field}
use Rattle.wire_fields.specs.Places.{place_of, found_number, number_at, ends_at, found_part, standing, stands_as, bytes_at, found_field, field_at, ends_in_order, Within, field_of}
use Rattle.wire_fields.specs.Joining.{place-drop, one_byte}
use Rattle.wire_fields.specs.Readers.{no-ok, same-ok, same-err, Behind, reads-number, number-shorter, reads-field, field-shorter, holds-field}
use Rattle.wire_fields.specs.declared.Number.{Number}
use Rattle.wire_fields.specs.declared.Held.TheVariants.{Bytes}
use Rattle.wire_fields.specs.declared.Field.{Field}

-- No fault has the number of what can be read.
pub some-code : (why : Fault) → code_of why ≢ 0
some-code CutShort e = omega arith
some-code TooLarge e = omega arith
some-code BadTag e = omega arith

-- The bytes behind a reading at a place begin at the place behind it.
placed : (message : List ℕ) (at : ℕ) (rest : List ℕ) → Behind (drop at message) rest → length rest < length (drop at message)
    → (rest ≡ drop (place_of message rest) message) × (place_of message rest ≤ length message) × (at < place_of message rest)
placed message at rest b less =
    let n = length-drop at message in
    let k = length-drop b.used (drop at message) in
    let long = ap length b.same in
    let inside = b.inside in
    let place : place_of message rest ≡ at + b.used = omega arith in
    (rw place (b.same ∙ drop-drop b.used at message), omega arith, omega arith)

-- ---- numbers

pub record FoundNumber (message : List ℕ) (at : ℕ) (r : Number) : Type 0 where
  pub stands : number (drop at message) ≡ taken r.value (drop r.next message)
  pub inside : r.next ≤ length message
  pub beyond : at < r.next

module _ (message : List ℕ) (at : ℕ) where
  pub found-number : (r : Number) → number_at message at ≡ Ok r → FoundNumber message at r
  unfolding number_at
  found-number r is = go (number (drop at message)) refl
    where
      go : (t : Taken ℕ) → number (drop at message) ≡ t → FoundNumber message at r
      go (taken value rest) e =
          let same : r ≡ record { value = value; next = place_of message rest } = same-ok (sym is ∙ ap (found_number message) e) in
          let p = placed message at rest (reads-number.behind _ value rest e) (number-shorter _ value rest e) in
          rw same (record { stands = e ∙ ap (taken value) p.0; inside = p.1; beyond = p.2 })
      go (fault why) e = absurd (no-ok (sym is ∙ ap (found_number message) e))

  pub no_number : (why : Fault) → number_at message at ≡ Err why → number (drop at message) ≡ fault why
  unfolding number_at
  no_number why is = go (number (drop at message)) refl
    where
      go : (t : Taken ℕ) → number (drop at message) ≡ t → number (drop at message) ≡ fault why
      go (taken value rest) e = absurd (no-ok (sym (ap (found_number message) e) ∙ is))
      go (fault other) e = e ∙ ap fault (same-err (sym (ap (found_number message) e) ∙ is))

-- A number of one byte.
pub first_found : (message : List ℕ) (at byte : ℕ) → slice_get message at ≡ Some byte → byte < 128 → FoundNumber message at (record { value = byte; next = at + 1 })
first_found message at byte is small = found-number message at _ (one_byte message at byte is small)

-- ---- fields

module _ (message : List ℕ) (at : ℕ) where
  -- Without its number a field has the number's fault.
  pub no-number-no-field : (why : Fault) → number_at message at ≡ Err why → (next : ℕ → List ℕ → Taken Fields.Field) → Err why ≡ found_field message (after (number (drop at message)) next)
  no-number-no-field why is next = ap (λ (t : Taken ℕ). found_field message (after t next)) (sym (no_number message at why is))

  module _ (r : Number) (found : FoundNumber message at r) where
    pub with_number : (next : ℕ → List ℕ → Taken Fields.Field)
        → found_field message (next r.value (drop r.next message)) ≡ found_field message (after (number (drop at message)) next)
    with_number next = ap (λ (t : Taken ℕ). found_field message (after t next)) (sym found.stands)

    pub varint-field : (n : ℕ) → Ok (standing (varint n r.value) r.next) ≡ found_field message (as_varint n (drop at message))
    varint-field n =
        ap (λ (k : ℕ). stands_as (varint n r.value) k) (sym (place-drop message r.next found.inside))
        ∙ with_number (λ value rest. taken (varint n value) rest)

-- ---- the field whose tag has been seen

-- The tag of field n with a wire type, and what it says of the bytes behind it.
tag-says : (wire n : ℕ) → wire < 8 → 1 ≤ n → n ≤ last_number → tagged (wire + 8 * n) ≡ content wire n
unfolding tagged
tag-says wire n w low high =
    let k : (wire + 8 * n) / 8 ≡ n = omega arith in
    let j : (wire + 8 * n) % 8 ≡ wire = omega arith in
    λ i l. (let e : tagged (wire + 8 * n) l ≡ content wire n l = rw (k, j, le-leb 1 n low, le-leb n last_number high) in e) i

-- Who has seen a tag of one byte knows what stands behind it.
module _ (message : List ℕ) (at byte : ℕ) (is : slice_get message at ≡ Some byte) where
  seen : (wire n : ℕ) → wire < 8 → 1 ≤ n → n < 16 → byte ≡ wire + 8 * n → found_field message (content wire n (drop (at + 1) message)) ≡ field_at message at
  unfolding field_at field
  seen wire n w low high same =
      ap (λ (g : List ℕ → Taken Fields.Field). found_field message (g (drop (at + 1) message))) (sym (tag-says wire n w low (omega arith)))
      ∙ ap (λ (tag : ℕ). found_field message (tagged tag (drop (at + 1) message))) (sym same)
      ∙ with_number message at (record { value = byte; next = at + 1 }) (first_found message at byte is (omega arith)) tagged

  pub seen-varint : (n : ℕ) → 1 ≤ n → n < 16 → byte ≡ 8 * n → found_field message (as_varint n (drop (at + 1) message)) ≡ field_at message at
  unfolding content
  seen-varint n low high same = seen 0 n (omega arith) low high (omega arith)

  pub seen_bytes : (n : ℕ) → 1 ≤ n → n < 16 → byte ≡ 2 + 8 * n → found_field message (as_bytes n (drop (at + 1) message)) ≡ field_at message at
  unfolding content
  seen_bytes n low high same = seen 2 n (omega arith) low high same

-- ---- bytes as many as a length says

module _ (message : List ℕ) (at size : ℕ) (inside : at ≤ length message) where
  module _ (fits : size ≤ length message - at) where
    part-stands : part size (drop at message) ≡ taken (take size (drop at message)) (drop (at + size) message)
    unfolding part
    part-stands =
        let n = length-drop at message in
        simp (le-leb size (length (drop at message)) (omega arith)) (ap (taken (take size (drop at message))) (drop-drop size at message))

    place : place_of message (drop (at + size) message) ≡ at + size
    place = place-drop message (at + size) (omega arith)

    pub part-ends : ends_at (at + size) ≡ found_part message (part size (drop at message))
    part-ends = ap ends_at (sym place) ∙ ap (found_part message) (sym part-stands)

    fixed-stands : (n : ℕ) → stands_as (fixed n) (at + size) ≡ found_field message (as_fixed size n (drop at message))
    fixed-stands n = ap (stands_as (fixed n)) (sym place) ∙ ap (λ (t : Taken (List ℕ)). found_field message (after t (λ skipped rest. taken (fixed n) rest))) (sym part-stands)

    bytes-stand : (n : ℕ) → Ok (record { number = n; held = Bytes at; next = at + size }) ≡ found_field message (part_as n size (drop at message))
    bytes-stand n =
        let k = length-drop at message in
        let held = length-take-le size (drop at message) (omega arith) in
        let start : at ≡ at + size - length (take size (drop at message)) = omega arith in
        ap (λ (s : ℕ). bytes_at n s (at + size)) start
        ∙ ap (stands_as (bytes n (take size (drop at message)))) (sym place)
        ∙ ap (λ (t : Taken (List ℕ)). found_field message (after t (λ held rest. taken (bytes n held) rest))) (sym part-stands)

  pub part-short : length message - at < size → Err CutShort ≡ found_part message (part size (drop at message))
  unfolding part
  part-short h = let n = length-drop at message in simp (lt-leb size (length (drop at message)) (omega arith))

  module _ (next : ℕ) (is : found_part message (part size (drop at message)) ≡ ends_at next) where
    part_fits : size ≤ length message - at
    part_fits = go (leb size (length message - at)) refl
      where
        go : (b : Bool) → leb size (length message - at) ≡ b → size ≤ length message - at
        go true h = leb-true _ _ h
        go false h = absurd (no-ok (sym is ∙ sym (part-short (leb-false _ _ h))))

    part_next : next ≡ at + size
    part_next = same-ok (sym is ∙ sym (part-ends part_fits))

    pub fixed-field : (n : ℕ) → stands_as (fixed n) next ≡ found_field message (as_fixed size n (drop at message))
    fixed-field n = ap (stands_as (fixed n)) part_next ∙ fixed-stands part_fits n

    pub part_field : (n : ℕ) → bytes_at n at next ≡ found_field message (part_as n size (drop at message))
    part_field n = ap (bytes_at n at) part_next ∙ bytes-stand part_fits n

-- Without its bytes a field has the fault of their length.
pub no-part-no-field : (message : List ℕ) (t : Taken (List ℕ)) (why : Fault) → found_part message t ≡ Err why → (next : List ℕ → List ℕ → Taken Fields.Field) → Err why ≡ found_field message (after t next)
no-part-no-field message (taken held rest) why is next = absurd (no-ok is)
no-part-no-field message (fault other) why is next = ap (λ (w : Fault). Err w) (sym (same-err is))

-- ---- the field at a place

pub record FoundField (message : List ℕ) (at : ℕ) (r : Field) : Type 0 where
  pub stands : field (drop at message) ≡ taken (field_of message r) (drop r.next message)
  pub within : Within message r
  pub beyond : at < r.next

stood : (message : List ℕ) (at : ℕ) (f : Fields.Field) (rest : List ℕ) → field (drop at message) ≡ taken f rest → field_of message (standing f (place_of message rest)) ≡ f
stood message at (varint n value) rest e = refl
stood message at (fixed n) rest e = refl
stood message at (bytes n held) rest e =
    let b = holds-field.before (drop at message) n held rest e in
    let inside = b.inside in
    let size = length-append held rest in
    let cut = length-drop at message in
    let left = length-drop b.used (drop at message) in
    let long = ap length b.same in
    let less = field-shorter (drop at message) (bytes n held) rest e in
    let start : place_of message rest - length held ≡ at + b.used = omega arith in
    let width : place_of message rest - (at + b.used) ≡ length held = omega arith in
    ap (bytes n) (rw (start, width, ← drop-drop b.used at message, ← b.same) (take-append_seam held rest))

module _ (message : List ℕ) (at : ℕ) where
  pub found-field : (r : Field) → field_at message at ≡ Ok r → FoundField message at r
  unfolding field_at
  found-field r is = go (field (drop at message)) refl
    where
      ordered-in : (f : Fields.Field) (next : ℕ) → ends_in_order (standing f next).held (standing f next).next
      ordered-in (varint n value) next = tt
      ordered-in (fixed n) next = tt
      ordered-in (bytes n held) next = omega arith

      next-in : (f : Fields.Field) (next : ℕ) → (standing f next).next ≡ next
      next-in (varint n value) next = refl
      next-in (fixed n) next = refl
      next-in (bytes n held) next = refl

      go : (t : Taken Fields.Field) → field (drop at message) ≡ t → FoundField message at r
      go (taken f rest) e =
          let same : r ≡ standing f (place_of message rest) = same-ok (sym is ∙ ap (found_field message) e) in
          let p = placed message at rest (reads-field.behind _ f rest e) (field-shorter _ f rest e) in
          let k = next-in f (place_of message rest) in
          let inside = p.1 in
          let beyond = p.2 in
          subst (FoundField message at) (sym same) (record {
            stands = e ∙ ap₂ taken (sym (stood message at f rest e)) (p.0 ∙ ap (λ (place : ℕ). drop place message) (sym k));
            within = (ordered-in f (place_of message rest), omega arith);
            beyond = omega arith;
          })
      go (fault why) e = absurd (no-ok (sym is ∙ ap (found_field message) e))

  pub no-field : (why : Fault) → field_at message at ≡ Err why → field (drop at message) ≡ fault why
  unfolding field_at
  no-field why is = go (field (drop at message)) refl
    where
      go : (t : Taken Fields.Field) → field (drop at message) ≡ t → field (drop at message) ≡ fault why
      go (taken f rest) e = absurd (no-ok (sym (ap (found_field message) e) ∙ is))
      go (fault other) e = e ∙ ap fault (same-err (sym (ap (found_field message) e) ∙ is))
