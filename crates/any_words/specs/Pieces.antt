-- Lines and words as the library cuts them out. Assumes nothing.
use Rattle.std.specs.Prelude.{◌≡◌, refl, Bool, true, false, cond, not, List, [], ◌∷◌, ℕ, eqb, length, filter}
use Rattle.std.specs.List.{slice_split, onto_first}
use Rattle.std.proofs.Common.{sym, ap, ◌∙◌}
use Rattle.std.proofs.Math.Dec.{eqb-suc-zero}
use Rattle.any_words.specs.Text.{is_blank, cut, pieces, full, words}

cut-split : (c : Bool) (b : ℕ) (ps : List (List ℕ)) → cut c b ps ≡ cond c ([] ∷ ps) (onto_first b ps)
cut-split true b ps = refl
cut-split false b [] = refl
cut-split false b (p ∷ ps) = refl

-- The pieces of a list, as the library splits it.
pub split-pieces : (test : ℕ → Bool) (l : List ℕ) → slice_split test l ≡ pieces test l
unfolding pieces
split-pieces test [] = refl
split-pieces test (b ∷ l) = ap (λ (ps : List (List ℕ)). cond (test b) ([] ∷ ps) (onto_first b ps)) (split-pieces test l) ∙ sym (cut-split (test b) b (pieces test l))

full-filter : (ps : List (List ℕ)) → filter (λ w. not (eqb (length w) 0)) ps ≡ full ps
full-filter [] = refl
full-filter ([] ∷ ps) = full-filter ps
full-filter ((b ∷ p) ∷ ps) = rw (eqb-suc-zero (length p)) (ap (λ (ws : List (List ℕ)). (b ∷ p) ∷ ws) (full-filter ps))

-- The pieces of a line that are not empty.
abbrev pub cut_words : List ℕ → List (List ℕ)
cut_words line = filter (λ w. not (eqb (length w) 0)) (slice_split is_blank line)

pub words-cut : (line : List ℕ) → cut_words line ≡ words line
words-cut line = full-filter (slice_split is_blank line) ∙ ap full (split-pieces is_blank line)
