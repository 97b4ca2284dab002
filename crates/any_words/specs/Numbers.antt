-- A word read digit by digit. Assumes nothing.
use Rattle.std.specs.Prelude.{◌≡◌, refl, Bool, ◌&&◌, Some, None, ℕ, suc, ◌+◌, ◌*◌, ◌-◌, ◌^◌, ◌≤◌, ◌<◌, leb, get_or}
use Rattle.std.proofs.Math.Path.{sym, ap}
use Rattle.std.proofs.Common.{◌∙◌, true≢false, add-one, drop-cons, le-leb, leb-true}
use Rattle.std.proofs.Math.Bool.{true, false, and-false}
use mathlib.Core.List.{List, [], ◌∷◌}
use Rattle.std.proofs.Math.Nat.{pow-succ', pow-le-pow_right}
use native.Mathlib.Omega.{arith}
use Rattle.std.proofs.Math.ListN.{length, drop}
use Rattle.std.proofs.Math.Seq.{drop-length}
use Rattle.std.proofs.lemmas.Bool.{lt-leb}
use Rattle.rules.specs.Range.{all}
use Rattle.any_text.specs.Decimal.{said_after}
use Rattle.any_words.specs.Text.{is_digit, number_of}

pub first-true : (a b : Bool) → a && b ≡ true → a ≡ true
first-true true b e = refl
first-true false b e = absurd (true≢false (sym e))

pub both_true : (a b : Bool) → a && b ≡ true → b ≡ true
both_true true b e = e
both_true false b e = absurd (true≢false (sym e))

-- ---- a word

pub too_long : (word : List ℕ) → 19 < length word → None ≡ number_of word
unfolding number_of
too_long word h = rw (lt-leb (length word) 19 h)

-- The first i digits say the value.
pub record Said (word : List ℕ) (value i : ℕ) : Type 0 where
  pub few : length word ≤ 19
  pub low : i ≤ length word
  pub small : value < 10 ^ i
  pub said : said_after value (drop i word) ≡ said_after 0 word
  pub digits : all is_digit (drop i word) ≡ all is_digit word

pub said-none : (word : List ℕ) → length word ≤ 19 → Said word 0 0
said-none word h = record { few = h; low = omega arith; small = omega arith; said = refl; digits = refl }

module _ {word : List ℕ} {value i : ℕ} (s : Said word value i) where
  pub said_all : length word ≤ i → Some value ≡ number_of word
  unfolding number_of all
  said_all h =
      let low = s.low in
      let last : i ≡ length word = omega arith in
      let end : drop i word ≡ [] = ap (λ (x : ℕ). drop x word) last ∙ drop-length word in
      let d : true ≡ all is_digit word = ap (all is_digit) (sym end) ∙ s.digits in
      let v : value ≡ said_after 0 word = ap (said_after value) (sym end) ∙ s.said in
      rw (le-leb (length word) 19 s.few, ← d, ← v)

  module _ (h : i < length word) where
    here : drop i word ≡ get_or word i 0 ∷ drop (i + 1) word
    here = rw (add-one i) (drop-cons word i 0 h)

    pub said-bad : is_digit (get_or word i 0) ≡ false → None ≡ number_of word
    unfolding number_of all
    said-bad e =
        let d : all is_digit word ≡ false = sym s.digits ∙ ap (all is_digit) here ∙ ap (λ (x : Bool). x && all is_digit (drop (i + 1) word)) e in
        rw (d, and-false (leb (length word) 19))

    module _ (e : is_digit (get_or word i 0) ≡ true) where
      bound : 10 * value + (get_or word i 0 - 48) < 10 ^ suc i
      bound =
          let p = pow-succ' 10 i in
          let v = s.small in
          let d = leb-true (get_or word i 0) 57 (both_true (leb 48 (get_or word i 0)) (leb (get_or word i 0) 57) e) in
          omega arith

      pub is-digit : 48 ≤ get_or word i 0
      is-digit = leb-true 48 (get_or word i 0) (first-true (leb 48 (get_or word i 0)) (leb (get_or word i 0) 57) e)

      pub said_fits : 10 * value + (get_or word i 0 - 48) < 18446744073709551616
      said_fits = let b = bound in let few = s.few in let p = pow-le-pow_right {n = 10} (omega arith) {i = suc i} {j = 19} (omega arith) in let q : 10 ^ 19 ≡ 10000000000000000000 = refl in omega arith

      pub said_more : Said word (10 * value + (get_or word i 0 - 48)) (i + 1)
      unfolding all
      said_more = record {
        few = s.few;
        low = omega arith;
        small = rw (add-one i) bound;
        said = ap (said_after value) (sym here) ∙ s.said;
        digits = ap (λ (x : Bool). x && all is_digit (drop (i + 1) word)) (sym e) ∙ ap (all is_digit) (sym here) ∙ s.digits;
      }
