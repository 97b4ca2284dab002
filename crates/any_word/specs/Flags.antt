-- The word of a list of flags: what its ones, its trailing zeros and clearing its lowest bit say of the flags. Assumes nothing.
use Rattle.std.specs.Prelude.{◌≡◌, refl, Bool, true, false, cond, List, [], ◌∷◌, ℕ, zero, suc, ◌+◌, ◌-◌, ◌*◌, ◌/◌, ◌%◌, ◌^◌, ◌<◌, ◌≤◌, length, get_or, set}
use Rattle.std.proofs.Common.{ap, ◌∙◌, suc-le-suc, le_of_suc-le-suc, lt_of_lt_of_le, arith, pow_mono}
use Rattle.std.specs.Int.Count.{ones, ones_step, count_trailing_zeros}
use Rattle.std.specs.Int.Bits.{bit_and, and_step, and_self}
use Rattle.rules.specs.Open.{word_of, open_number}

odd-half : (w : ℕ) → (1 + 2 * w) / 2 ≡ w
odd-half w = omega arith

odd-mod : (w : ℕ) → (1 + 2 * w) % 2 ≡ 1
odd-mod w = omega arith

even-half : (w : ℕ) → (0 + 2 * w) / 2 ≡ w
even-half w = omega arith

even-mod : (w : ℕ) → (0 + 2 * w) % 2 ≡ 0
even-mod w = omega arith

-- the ones of the word are the true flags
pub ones-open : (l : List Bool) → ones (word_of l) ≡ open_number l
unfolding ones word_of open_number
ones-open [] = refl
ones-open (true ∷ l) = ones_step (1 + 2 * word_of l) ∙ simp (odd-half, odd-mod, ones-open l)
ones-open (false ∷ l) = ones_step (0 + 2 * word_of l) ∙ simp (even-half, even-mod, ones-open l)

-- the word is 0 only where no flag is true
pub none-set : (l : List Bool) → word_of l ≡ 0 → (i : ℕ) → get_or l i false ≡ false
unfolding word_of
none-set [] e i = refl
none-set (true ∷ l) e i = absurd (omega arith)
none-set (false ∷ l) e zero = refl
none-set (false ∷ l) e (suc i) = none-set l (omega arith) i

-- i is the place of the first true flag, and clearing it leaves the word `rest`
pub record Lowest (l : List Bool) (i rest : ℕ) : Type 0 where
  pub inside : i < length l
  pub is_set : get_or l i false ≡ true
  pub cleared : rest ≡ word_of (set l i false)

clear-odd : (w : ℕ) → bit_and (1 + 2 * w) (1 + 2 * w - 1) ≡ 0 + 2 * w
clear-odd w =
    let e : 1 + 2 * w - 1 ≡ 0 + 2 * w = omega arith in
    rw e (and_step (1 + 2 * w) (0 + 2 * w) ∙ simp (odd-half, odd-mod, even-half, even-mod, and_self) (omega arith))

clear-even : (w : ℕ) → 0 < w → bit_and (0 + 2 * w) (0 + 2 * w - 1) ≡ 0 + 2 * bit_and w (w - 1)
clear-even w p =
    let e : 0 + 2 * w - 1 ≡ 1 + 2 * (w - 1) = omega arith in
    rw e (and_step (0 + 2 * w) (1 + 2 * (w - 1)) ∙ simp (odd-half, odd-mod, even-half, even-mod) (omega arith))

-- the trailing zeros and the lowest bit, of a word of at most `size` bits
pub lowest : (size : ℕ) (l : List Bool) → length l ≤ size → 0 < word_of l → Lowest l (count_trailing_zeros size (word_of l)) (bit_and (word_of l) (word_of l - 1))
unfolding count_trailing_zeros word_of
lowest size [] h p = absurd (omega arith)
lowest zero (b ∷ l) h p = absurd (omega arith)
lowest (suc size) (true ∷ l) h p = rw (odd-mod (word_of l)) (record { inside = omega arith; is_set = refl; cleared = clear-odd (word_of l) })
lowest (suc size) (false ∷ l) h p =
    let q : 0 < word_of l = omega arith in
    let ih = lowest size l (le_of_suc-le-suc h) q in
    rw (even-mod (word_of l), even-half (word_of l)) (record {
      inside = suc-le-suc ih.inside;
      is_set = ih.is_set;
      cleared = clear-even (word_of l) q ∙ ap (λ (x : ℕ). 0 + 2 * x) ih.cleared;
    })

pub word_none : word_of [] ≡ 0
unfolding word_of
word_none = refl

-- one flag more below
pub word-cons : (b : Bool) (l : List Bool) → word_of (b ∷ l) ≡ cond b 1 0 + 2 * word_of l
unfolding word_of
word-cons b l = refl

word_lt : (l : List Bool) → word_of l < 2 ^ length l
unfolding word_of
word_lt [] = omega arith
word_lt (b ∷ l) = go b (word_lt l)
  where
    go : (b : Bool) → word_of l < 2 ^ length l → word_of (b ∷ l) < 2 ^ suc (length l)
    go true h = omega arith
    go false h = omega arith

-- a word of at most 8 flags is a byte
pub word_small : (l : List Bool) → length l ≤ 8 → word_of l < 256
word_small l h = lt_of_lt_of_le (word_lt l) (pow_mono h)
