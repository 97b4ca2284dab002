-- A number group by group: what the loop that reads it knows at each byte. Assumes nothing.
use Rattle.std.specs.Prelude.{◌≡◌, ◌≢◌, Bool, true, false, ℕ, zero, suc, ◌+◌, ◌*◌, ◌%◌, ◌^◌, ◌-◌, ◌<◌, ◌≤◌, length, get_or, take, drop, eqb, slice_get, Some, Err}
use Rattle.std.proofs.Math.Path.{refl, sym, ap, ap₂}
use Rattle.std.proofs.Common.{◌∙◌, mul-add, mul_assoc, mul_comm, mod-eq_of_lt, lt_of_lt_of_le, add-one, arith, pow-add, pow_mono, shl_lt, length-drop, drop_of_length-le, drop-cons, lt-ltb, le-ltb, le-leb}
use mathlib.Core.List.{List, ◌∷◌}
use Rattle.std.proofs.Math.Arith.{digits_lt}
use Rattle.std.proofs.lemmas.Bool.{lt-leb}
use Rattle.std.proofs.lemmas.List.{take_all, get_or-drop}
use borrow.Author.Tests.{eqb-true, eqb-false}
use Rattle.std.proofs.lemmas.Option.{slice_get_within, get_or_from_slice_get}
use Rattle.wire_fields.specs.Numbers.{Taken, taken, fault, CutShort, TooLarge, after, number_in, number}
use Rattle.wire_fields.specs.Groups.{joined}
use Rattle.wire_fields.specs.Places.{place_of, read_as, found_number, number_at}

pub place-drop : (message : List ℕ) (next : ℕ) → next ≤ length message → place_of message (drop next message) ≡ next
place-drop message next h = let n = length-drop next message in omega arith

-- A number whose first `shift` bits are `value`.
abbrev pub above : ℕ → ℕ → Taken ℕ → Taken ℕ
above value shift high = after high (λ top rest. taken (value + 2 ^ shift * top) rest)

-- The bytes before `next` give the first `shift` bits, and as many bytes may still come as fill 64.
pub record Joining (message : List ℕ) (at value shift next : ℕ) : Type 0 where
  pub more : ℕ
  pub room : shift + 7 * more ≡ 63
  pub low : value < 2 ^ shift
  pub so_far : number (drop at message) ≡ above value shift (number_in more (drop next message))

above-none : (t : Taken ℕ) → t ≡ above 0 0 t
above-none (taken value rest) = ap (λ (v : ℕ). taken v rest) (omega arith)
above-none (fault why) = refl

pub joining-starts : (message : List ℕ) (at : ℕ) → Joining message at 0 0 at
joining-starts message at = record { more = 9; room = refl; low = omega arith; so_far = above-none (number (drop at message)) }

above_more : (value byte shift : ℕ) (t : Taken ℕ)
    → above value shift (after t (λ high rest. taken (byte % 128 + 128 * high) rest)) ≡ above (joined value byte shift) (shift + 7) t
above_more value byte shift (taken high rest) =
    ap (λ (v : ℕ). taken v rest) (rw (mul-add (2 ^ shift) (byte % 128) (128 * high), ← mul_assoc (2 ^ shift) 128 high, pow-add 2 shift 7) (omega arith))
above_more value byte shift (fault why) = refl

module _ {message : List ℕ} {at value shift next : ℕ} (j : Joining message at value shift next) where
  -- ---- what joining asks for

  pub shift_fits : shift < 64
  shift_fits = let r = j.room in omega arith

  group-fits : (size byte : ℕ) → byte % 128 < 2 ^ size → size + shift ≤ 64 → byte % 128 * 2 ^ shift < 2 ^ 64
  group-fits size byte h k = lt_of_lt_of_le (shl_lt size shift h) (pow_mono k)

  pub last_fits : (byte : ℕ) → byte ≤ 1 → byte % 128 * 2 ^ shift < 2 ^ 64
  last_fits byte h = group-fits 1 byte (omega arith) (let r = j.room in omega arith)

  pub next_fits : (byte : ℕ) → shift ≢ 63 → byte % 128 * 2 ^ shift < 2 ^ 64
  next_fits byte h = group-fits 7 byte (omega arith) (go j.more j.room)
    where
      go : (more : ℕ) → shift + 7 * more ≡ 63 → 7 + shift ≤ 64
      go zero r = absurd (h (omega arith))
      go (suc more) r = omega arith

  -- ---- what the next byte says

  next-byte : next < length message → drop next message ≡ get_or message next 0 ∷ drop (next + 1) message
  next-byte h = rw (add-one next) (drop-cons message next 0 h)

  pub cut_off : length message ≤ next → number_at message at ≡ Err CutShort
  unfolding number_in number_at
  cut_off h = ap (found_number message) (j.so_far ∙ ap (λ (l : List ℕ). above value shift (number_in j.more l)) (drop_of_length-le message h))

  module _ (inside : next < length message) where
    abbrev byte : ℕ
    byte = get_or message next 0

    stands : (top : ℕ) → number (drop at message) ≡ taken (value + 2 ^ shift * top) (drop (next + 1) message)
        → top ≡ byte → byte < 128 → number_at message at ≡ read_as (joined value byte shift) (next + 1)
    unfolding number_at
    stands top e t small =
        ap (found_number message) e
        ∙ ap₂ (λ (v k : ℕ). read_as (value + 2 ^ shift * v) k) (t ∙ sym (mod-eq_of_lt small)) (place-drop message (next + 1) (omega arith))

    front : (more : ℕ) → j.more ≡ more → number (drop at message) ≡ above value shift (number_in more (byte ∷ drop (next + 1) message))
    front more m = rw (← m, ← next-byte inside) j.so_far

    module _ (last : shift ≡ 63) where
      none_more : j.more ≡ 0
      none_more = let r = j.room in omega arith

      pub too-large : 1 < byte → number_at message at ≡ Err TooLarge
      unfolding number_in number_at
      too-large h = let e : number (drop at message) ≡ fault TooLarge = front 0 none_more ∙ simp (lt-leb byte 1 h) in ap (found_number message) e

      pub last_byte : byte ≤ 1 → number_at message at ≡ read_as (joined value byte shift) (next + 1)
      unfolding number_in
      last_byte h = stands byte (front 0 none_more ∙ simp (le-leb byte 1 h)) refl (omega arith)

    module _ (not_last : shift ≢ 63) where
      some_more : (more : ℕ) → j.more ≡ more → (k : ℕ) × (j.more ≡ suc k)
      some_more zero e = absurd (not_last (let r = j.room in omega arith))
      some_more (suc k) e = (k, e)

      pub ends-here : byte < 128 → number_at message at ≡ read_as (joined value byte shift) (next + 1)
      unfolding number_in
      ends-here h =
          let s = some_more j.more refl in
          stands byte (front (suc s.0) s.1 ∙ simp (lt-ltb byte 128 h)) refl h

      joined-low : joined value byte shift < 2 ^ (shift + 7)
      joined-low = rw (pow-add 2 shift 7, mul_comm (2 ^ shift) (byte % 128), mul_comm (2 ^ shift) (2 ^ 7)) (let d = digits_lt {m = 128} {c = 2 ^ shift} (below_all byte) j.low in omega arith)
        where
          below_all : (b : ℕ) → b % 128 < 128
          below_all b = omega arith

      pub goes_on : 128 ≤ byte → Joining message at (joined value byte shift) (shift + 7) (next + 1)
      unfolding number_in
      goes_on h =
          let s = some_more j.more refl in
          record {
            more = s.0;
            room = let r = j.room in let m = s.1 in omega arith;
            low = joined-low;
            so_far = front (suc s.0) s.1 ∙ simp (le-ltb byte 128 h) (above_more value byte shift (number_in s.0 (drop (next + 1) message)));
          }

-- ---- the loop over the bytes from a place on

-- The byte that it is at.
abbrev pub lent : List ℕ → ℕ → ℕ → ℕ
lent message at i = get_or (take (length message - at) (drop at message)) i 0

lent-is : (message : List ℕ) (at i : ℕ) → at ≤ length message → lent message at i ≡ get_or message (at + i) 0
lent-is message at i start =
    let n = length-drop at message in
    rw (take_all (length message - at) (drop at message) (omega arith)) (get_or-drop at message i 0)

module _ {message : List ℕ} {at value i : ℕ} (start : at ≤ length message) (j : Joining message at value (7 * i) (at + i)) where
  pub lent-fits : (i ≡ 9 → lent message at i ≤ 1) → lent message at i % 128 * 2 ^ (7 * i) < 2 ^ 64
  lent-fits small = go (eqb i 9) refl
    where
      go : (b : Bool) → eqb i 9 ≡ b → lent message at i % 128 * 2 ^ (7 * i) < 2 ^ 64
      go true e = let k = eqb-true i 9 e in last_fits j (lent message at i) (small k)
      go false e = let k = eqb-false i 9 e in next_fits j (lent message at i) (λ h. k (omega arith))

  module _ (more : at + i < length message) where
    pub lent_large : i ≡ 9 → 1 < lent message at i → number_at message at ≡ Err TooLarge
    lent_large last large = let is = lent-is message at i start in too-large j more (omega arith) (omega arith)

    pub lent-ends : (i ≡ 9 → lent message at i ≤ 1) → lent message at i < 128 → number_at message at ≡ read_as (joined value (lent message at i) (7 * i)) (at + i + 1)
    lent-ends small short = go (eqb i 9) refl
      where
        go : (b : Bool) → eqb i 9 ≡ b → number_at message at ≡ read_as (joined value (lent message at i) (7 * i)) (at + i + 1)
        go true e = let is = lent-is message at i start in let k = eqb-true i 9 e in let s = small k in rw (lent-is message at i start) (last_byte j more (omega arith) (omega arith))
        go false e = let is = lent-is message at i start in let k = eqb-false i 9 e in rw (lent-is message at i start) (ends-here j more (λ h. k (omega arith)) (omega arith))

    pub lent_goes_on : (i ≡ 9 → lent message at i ≤ 1) → 128 ≤ lent message at i → Joining message at (joined value (lent message at i) (7 * i)) (7 * (i + 1)) (at + (i + 1))
    lent_goes_on small long =
        let is = lent-is message at i start in
        let shift : 7 * (i + 1) ≡ 7 * i + 7 = omega arith in
        let next : at + (i + 1) ≡ at + i + 1 = omega arith in
        rw (shift, next, lent-is message at i start) (goes_on j more (λ h. (let last : i ≡ 9 = omega arith in let s = small last in omega arith)) (omega arith))

-- ---- a number of one byte

pub byte_inside : (message : List ℕ) (at byte : ℕ) → slice_get message at ≡ Some byte → at + 1 ≤ length message
byte_inside message at byte is = let inside = slice_get_within message at byte is in omega arith

pub one_byte : (message : List ℕ) (at byte : ℕ) → slice_get message at ≡ Some byte → byte < 128 → number_at message at ≡ read_as byte (at + 1)
one_byte message at byte is small =
    let inside = byte_inside message at byte is in
    let same = get_or_from_slice_get message at byte 0 is in
    let all : joined 0 (get_or message at 0) 0 ≡ byte = omega arith in
    ends-here (joining-starts message at) (omega arith) (λ e. omega arith) (omega arith) ∙ ap (λ (v : ℕ). read_as v (at + 1)) all
