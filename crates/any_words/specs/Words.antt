-- Pieces and words as a loop finds them: from one place to the next. Assumes nothing.
use Rattle.std.specs.Prelude.{◌≡◌, Bool, true, false, not, length, get_or, drop}
use Rattle.std.proofs.Math.Path.{refl, ap, ap₂}
use Rattle.std.proofs.Common.{sym, ◌∙◌, true≢false, le_of_suc-le-suc, arith, length-drop, get_or-drop, drop-drop, drop-cons, take_all}
use Rattle.std.specs.Bool.{beq}
use mathlib.Core.List.{List, [], ◌∷◌}
use Prim.Native.Nat.{ℕ, zero, suc, ◌+◌, ◌-◌, ◌≤◌, ◌<◌}
use Rattle.std.proofs.Math.Decide.{dec_lt}
use Rattle.std.proofs.lemmas.Bool.{not-false}
use Rattle.std.proofs.Math.ListN.{take, drop_of_length-le}
use Rattle.any_search.specs.Seek.{Sought}
use Rattle.any_words.specs.Text.{is_blank, cut, pieces, full, words}

-- Whether the byte at a place is blank, as asked for.
abbrev pub blank_is : Bool → List ℕ → ℕ → Bool
blank_is true l k = is_blank (get_or l k 0)
blank_is false l k = not (is_blank (get_or l k 0))

pub blank-asked : (blank : Bool) (l : List ℕ) (k : ℕ) (b : Bool) → b ≡ is_blank (get_or l k 0) → beq b blank ≡ blank_is blank l k
blank-asked true l k true e = e
blank-asked true l k false e = e
blank-asked false l k true e = ap not e
blank-asked false l k false e = ap not e

-- ---- the first piece of a list

module _ (test : ℕ → Bool) where
  pub first_piece : (l : List ℕ) (r : ℕ) → ((k : ℕ) → k < r → test (get_or l k 0) ≡ false) → r < length l → test (get_or l r 0) ≡ true
      → pieces test l ≡ take r l ∷ pieces test (drop (suc r) l)
  unfolding pieces
  first_piece [] r f h e = absurd (omega arith)
  first_piece (b ∷ l) zero f h e = ap (λ (x : Bool). cut x b (pieces test l)) e
  first_piece (b ∷ l) (suc r) f h e =
      ap₂ (λ (x : Bool) (ps : List (List ℕ)). cut x b ps) (f 0 (omega arith)) (first_piece l r (λ k i. f (suc k) (omega arith)) (le_of_suc-le-suc h) e)

  pub only-piece : (l : List ℕ) → ((k : ℕ) → k < length l → test (get_or l k 0) ≡ false) → pieces test l ≡ l ∷ []
  unfolding pieces
  only-piece [] f = refl
  only-piece (b ∷ l) f = ap₂ (λ (x : Bool) (ps : List (List ℕ)). cut x b ps) (f 0 (omega arith)) (only-piece l (λ k i. f (suc k) (omega arith)))

-- ---- words

blank-first : (b : ℕ) (l : List ℕ) → is_blank b ≡ true → words (b ∷ l) ≡ words l
unfolding pieces
blank-first b l e = ap (λ (x : Bool). full (cut x b (pieces is_blank l))) e

-- Blanks in front do not matter.
pub words-skip : (l : List ℕ) (r : ℕ) → r ≤ length l → ((k : ℕ) → k < r → is_blank (get_or l k 0) ≡ true) → words l ≡ words (drop r l)
words-skip l zero h f = refl
words-skip [] (suc r) h f = absurd (omega arith)
words-skip (b ∷ l) (suc r) h f = blank-first b l (f 0 (omega arith)) ∙ words-skip l r (le_of_suc-le-suc h) (λ k i. f (suc k) (omega arith))

-- The first word reaches to the next blank, or to the end.
module _ (b : ℕ) (l : List ℕ) (r : ℕ) (h : r ≤ length l) (f : (k : ℕ) → k < suc r → is_blank (get_or (b ∷ l) k 0) ≡ false) where
  word-behind : r < length l → is_blank (get_or l r 0) ≡ true → words (b ∷ l) ≡ (b ∷ take r l) ∷ words (drop r l)
  unfolding pieces
  word-behind k e =
      ap full (first_piece is_blank (b ∷ l) (suc r) f (omega arith) e)
      ∙ ap (λ (ws : List (List ℕ)). (b ∷ take r l) ∷ ws) (sym (rw (drop-cons l r 0 k) (blank-first (get_or l r 0) (drop (suc r) l) e)))

  word-last : length l ≤ r → words (b ∷ l) ≡ (b ∷ take r l) ∷ words (drop r l)
  unfolding pieces
  word-last k =
      ap full (only-piece is_blank (b ∷ l) (λ j i. f j (omega arith)))
      ∙ rw (take_all r l k, drop_of_length-le l k)

pub words-first : (l : List ℕ) (r : ℕ) → 0 < r → r ≤ length l → ((k : ℕ) → k < r → is_blank (get_or l k 0) ≡ false) → (r < length l → is_blank (get_or l r 0) ≡ true)
    → words l ≡ take r l ∷ words (drop r l)
words-first l zero p h f e = absurd (omega arith)
words-first [] (suc r) p h f e = absurd (omega arith)
words-first (b ∷ l) (suc r) p h f e = go (dec_lt r (length l))
  where
    go : Dec (r < length l) → words (b ∷ l) ≡ (b ∷ take r l) ∷ words (drop r l)
    go (yes k) = word-behind b l r (le_of_suc-le-suc h) f k (e (omega arith))
    go (no k) = word-last b l r (le_of_suc-le-suc h) f (omega arith)

-- ---- the same for a line, by what the searches find

module _ (line : List ℕ) where
  blank : (at k : ℕ) {b : Bool} → is_blank (get_or line (at + k) 0) ≡ b → is_blank (get_or (drop at line) k 0) ≡ b
  blank at k e = ap is_blank (get_or-drop at line k 0) ∙ e

  pub line-skip : (at r : ℕ) → at ≤ length line → Sought (blank_is false line) at (length line) r → words (drop at line) ≡ words (drop r line)
  line-skip at r h s =
      let low = s.low in
      let high = s.high in
      let n = length-drop at line in
      let there : at + (r - at) ≡ r = omega arith in
      words-skip (drop at line) (r - at) (omega arith) (λ k i. blank at k (not-false _ (s.none (at + k) (omega arith) (omega arith))))
      ∙ ap words (drop-drop (r - at) at line ∙ ap (λ (x : ℕ). drop x line) there)

  pub word_more : (at r : ℕ) → at < length line → is_blank (get_or line at 0) ≡ false → Sought (blank_is true line) at (length line) r → at < r
  word_more at r h e s = go (dec_lt at r)
    where
      go : Dec (at < r) → at < r
      go (yes k) = k
      go (no k) =
          let same : r ≡ at = (let low = s.low in omega arith) in
          absurd (true≢false (sym (s.hit (omega arith)) ∙ ap (λ (x : ℕ). is_blank (get_or line x 0)) same ∙ e))

  pub line_word : (at r : ℕ) → at < length line → is_blank (get_or line at 0) ≡ false → Sought (blank_is true line) at (length line) r
      → words (drop at line) ≡ take (r - at) (drop at line) ∷ words (drop r line)
  line_word at r h e s =
      let low = s.low in
      let high = s.high in
      let n = length-drop at line in
      let more = word_more at r h e s in
      let there : at + (r - at) ≡ r = omega arith in
      words-first (drop at line) (r - at) (omega arith) (omega arith) (λ k i. blank at k (s.none (at + k) (omega arith) (omega arith)))
      (λ k. blank at (r - at) (ap (λ (x : ℕ). is_blank (get_or line x 0)) there ∙ s.hit (omega arith)))
      ∙ ap (λ (l : List ℕ). take (r - at) (drop at line) ∷ words l) (drop-drop (r - at) at line ∙ ap (λ (x : ℕ). drop x line) there)
