-- Which lines a text has that is made of lines. Assumes nothing.
use Rattle.std.specs.Prelude.{◌≡◌, refl, Bool, true, List, [], ◌∷◌, ◌++◌, length, get_or}
use Rattle.std.proofs.Common.{sym, ap, ◌∙◌, append_assoc, arith, ne_eqb}
use Prim.Native.Nat.{ℕ, zero, suc}
use Rattle.std.proofs.Math.ListN.{take}
use Rattle.rules.specs.Range.{all}
use Rattle.any_text.specs.Decimal.{digit, decimal}
use Rattle.any_text.specs.Lines.{newline}
use Rattle.any_text.specs.Line.{spaced, line}
use Rattle.any_words.specs.Text.{is_newline, pieces, lines}
use Rattle.any_words.specs.Joined.{clear, clear_both, clear-number, piece_then}
use Rattle.log_text.specs.Means.{Says}

-- ---- no newline

abbrev pub plain : List ℕ → Bool
plain l = clear is_newline l

spaced-plain : (ns : List ℕ) → plain (spaced ns) ≡ true
unfolding all spaced
spaced-plain [] = refl
spaced-plain (n ∷ ns) = clear_both is_newline (decimal n) (spaced ns) (clear-number is_newline (λ d h. ne_eqb (digit d) newline (λ e. omega arith)) n) (spaced-plain ns)

-- ---- the first line

line-lines : (word ns rest : List ℕ) → plain word ≡ true → lines (line word ns ++ rest) ≡ (word ++ spaced ns) ∷ lines rest
unfolding line
line-lines word ns rest h =
    ap lines (append_assoc (word ++ spaced ns) (newline ∷ []) rest) ∙ piece_then is_newline (word ++ spaced ns) newline rest (clear_both is_newline word (spaced ns) h (spaced-plain ns)) refl

-- ---- what a text says

module _ {C : Type 0} (other : List ℕ) where
  -- The first line says it, or what follows does.
  pub says-line : (word ns rest : List ℕ) → plain word ≡ true → (take (length other) (word ++ spaced ns) ≡ other → C) → (Says other rest → C) → Says other (line word ns ++ rest) → C
  says-line word ns rest h here behind s =
      go s.place (ap (λ (ls : List (List ℕ)). take (length other) (get_or ls s.place [])) (sym (line-lines word ns rest h)) ∙ s.begins)
    where
      go : (k : ℕ) → take (length other) (get_or ((word ++ spaced ns) ∷ lines rest) k []) ≡ other → C
      go zero e = here e
      go (suc k) e = behind (record { place = k; begins = e })

  -- Nothing says nothing.
  pub says_none : (take (length other) [] ≡ other → C) → Says other [] → C
  unfolding pieces
  says_none f s = go s.place s.begins
    where
      go : (k : ℕ) → take (length other) (get_or ([] ∷ []) k []) ≡ other → C
      go zero e = f e
      go (suc k) e = f e
