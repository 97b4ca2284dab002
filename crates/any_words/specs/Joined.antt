-- The pieces of bytes that were put together. Assumes nothing.
use Rattle.std.specs.Prelude.{◌≡◌, Bool, ◌&&◌, ℕ, ◌<◌}
use Rattle.std.proofs.Math.Path.{refl, ap}
use Rattle.std.proofs.Common.{sym, true≢false}
use Rattle.std.proofs.Math.Bool.{true, false, not}
use mathlib.Core.List.{List, [], ◌∷◌, ◌++◌}
use Rattle.rules.specs.Range.{all}
use Rattle.any_text.specs.Decimal.{digit, decimal}
use Rattle.any_text.specs.Digits.{Digits, end, next, only-digits}
use Rattle.any_words.specs.Text.{cut, pieces}

module _ (test : ℕ → Bool) where
  -- None of the bytes passes the test.
  abbrev pub clear : List ℕ → Bool
  clear l = all (λ b. not (test b)) l

  pub clear_both : (a b : List ℕ) → clear a ≡ true → clear b ≡ true → clear (a ++ b) ≡ true
  unfolding all
  clear_both [] b h k = k
  clear_both (x ∷ a) b h k = go (not (test x)) h (clear_both a b)
    where
      go : (c : Bool) → c && clear a ≡ true → (clear a ≡ true → clear b ≡ true → clear (a ++ b) ≡ true) → c && clear (a ++ b) ≡ true
      go true i f = f i k
      go false i f = i

  -- A number is made of digits alone.
  pub clear-number : ((d : ℕ) → d < 10 → test (digit d) ≡ false) → (n : ℕ) → clear (decimal n) ≡ true
  unfolding all
  clear-number h n = digits (decimal n) (only-digits n)
    where
      digits : (l : List ℕ) → Digits l → clear l ≡ true
      digits k end = refl
      digits k (next {d} {l} i r) = rw (h d i) (digits l r)

  pub piece_then : (l : List ℕ) (b : ℕ) (rest : List ℕ) → clear l ≡ true → test b ≡ true → pieces test (l ++ (b ∷ rest)) ≡ l ∷ pieces test rest
  unfolding pieces all
  piece_then [] b rest h e = ap (λ (c : Bool). cut c b (pieces test rest)) e
  piece_then (x ∷ l) b rest h e = go (test x) h (piece_then l b rest)
    where
      go : (c : Bool) → not c && clear l ≡ true → (clear l ≡ true → test b ≡ true → pieces test (l ++ (b ∷ rest)) ≡ l ∷ pieces test rest)
          → cut c x (pieces test (l ++ (b ∷ rest))) ≡ (x ∷ l) ∷ pieces test rest
      go true k f = absurd (true≢false (sym k))
      go false k f = ap (cut false x) (f k e)

  pub piece-last : (l : List ℕ) → clear l ≡ true → pieces test l ≡ l ∷ []
  unfolding pieces all
  piece-last [] h = refl
  piece-last (x ∷ l) h = go (test x) h (piece-last l)
    where
      go : (c : Bool) → not c && clear l ≡ true → (clear l ≡ true → pieces test l ≡ l ∷ []) → cut c x (pieces test l) ≡ (x ∷ l) ∷ []
      go true k f = absurd (true≢false (sym k))
      go false k f = ap (cut false x) (f k)
