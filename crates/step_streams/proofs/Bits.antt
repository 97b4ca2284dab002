-- The word of flags as a loop adds it up, bit by bit. Assumes nothing.
use Rattle.std.specs.Prelude.{◌≡◌, Bool, true, false, cond, List, [], ◌∷◌, ℕ, zero, suc, ◌+◌, ◌*◌, ◌<◌, ◌≤◌, length, get_or, take}
use Rattle.std.proofs.Common.{arith, add-one, le_of_suc-le-suc}
use Rattle.std.proofs.lemmas.Bool.Decides.{nat_tests}
use Rattle.rules.specs.Open.{word_of}

-- the bit at place i
abbrev pub bit_at : ℕ → ℕ
bit_at zero = 1
bit_at (suc i) = 2 * bit_at i

pub bit_next : (i : ℕ) → bit_at i * 2 ≡ bit_at (i + 1)
bit_next i = rw (add-one i) (omega arith)

pub bit_small : (i : ℕ) → i < 8 → bit_at i ≤ 128
bit_small zero h = omega arith
bit_small (suc zero) h = omega arith
bit_small (suc (suc zero)) h = omega arith
bit_small (suc (suc (suc zero))) h = omega arith
bit_small (suc (suc (suc (suc zero)))) h = omega arith
bit_small (suc (suc (suc (suc (suc zero))))) h = omega arith
bit_small (suc (suc (suc (suc (suc (suc zero)))))) h = omega arith
bit_small (suc (suc (suc (suc (suc (suc (suc zero))))))) h = omega arith
bit_small (suc (suc (suc (suc (suc (suc (suc (suc i)))))))) h = absurd (omega arith)

-- one flag more
more : (l : List Bool) (i : ℕ) → i < length l → word_of (take (suc i) l) ≡ word_of (take i l) + cond (get_or l i false) (bit_at i) 0
unfolding word_of
more [] i h = absurd (omega arith)
more (b ∷ l) zero h = grind (arith, nat_tests)
more (b ∷ l) (suc i) h = go (cond b 1 0) (get_or l i false) (word_of (take (suc i) l)) (word_of (take i l)) (bit_at i) (more l i (le_of_suc-le-suc h))
  where
    go : (k : ℕ) (f : Bool) (w w' p : ℕ) → w ≡ w' + cond f p 0 → k + 2 * w ≡ k + 2 * w' + cond f (2 * p) 0
    go k true w w' p e = omega arith
    go k false w w' p e = omega arith

pub word-more : (l : List Bool) (i : ℕ) → i < length l → word_of (take (i + 1) l) ≡ word_of (take i l) + cond (get_or l i false) (bit_at i) 0
word-more l i h = rw (add-one i) (more l i h)
