-- Lines as a loop finds them: from one place to the next. Assumes nothing.
use Rattle.std.specs.Prelude.{◌≡◌, Bool, cond, List, [], ◌∷◌, ℕ, suc, ◌+◌, ◌-◌, ◌≤◌, ◌<◌, leb, length, get_or, take, drop}
use Rattle.std.proofs.Common.{sym, ap, ◌∙◌, arith, length-drop, get_or-drop, drop-drop, take_all, le-leb}
use Rattle.std.proofs.Math.Decide.{dec_lt}
use Rattle.std.proofs.lemmas.Bool.{lt-leb}
use Rattle.any_search.specs.Seek.{Sought}
use Rattle.any_words.specs.Text.{is_newline, lines}
use Rattle.any_words.specs.Words.{first_piece, only-piece}

-- The lines from a place on. Behind the last byte there is one more, which may be empty; behind that there is none.
abbrev pub lines_from : List ℕ → ℕ → List (List ℕ)
lines_from text at = cond (leb at (length text)) (lines (drop at text)) []

pub lines_more : (text : List ℕ) (at end : ℕ) → at ≤ length text → Sought (λ k. is_newline (get_or text k 0)) at (length text) end
    → lines_from text at ≡ take (end - at) (drop at text) ∷ lines_from text (end + 1)
lines_more text at end h s = rw (le-leb at (length text) h) (go (dec_lt end (length text)))
  where
    newline : (k : ℕ) {b : Bool} → is_newline (get_or text (at + k) 0) ≡ b → is_newline (get_or (drop at text) k 0) ≡ b
    newline k e = ap is_newline (get_or-drop at text k 0) ∙ e

    go : Dec (end < length text) → lines (drop at text) ≡ take (end - at) (drop at text) ∷ lines_from text (end + 1)
    go (yes k) =
        let low = s.low in
        let n = length-drop at text in
        let there : at + (end - at) ≡ end = omega arith in
        let behind : at + suc (end - at) ≡ end + 1 = omega arith in
        first_piece is_newline (drop at text) (end - at) (λ j i. newline j (s.none (at + j) (omega arith) (omega arith))) (omega arith)
        (newline (end - at) (ap (λ (x : ℕ). is_newline (get_or text x 0)) there ∙ s.hit k))
        ∙ rw (le-leb (end + 1) (length text) (omega arith))
        (ap (λ (l : List ℕ). take (end - at) (drop at text) ∷ lines l) (drop-drop (suc (end - at)) at text ∙ ap (λ (x : ℕ). drop x text) behind))
    go (no k) =
        let low = s.low in
        let high = s.high in
        let n = length-drop at text in
        only-piece is_newline (drop at text) (λ j i. newline j (s.none (at + j) (omega arith) (omega arith)))
        ∙ rw (lt-leb (end + 1) (length text) (omega arith)) (ap (λ (l : List ℕ). l ∷ []) (sym (take_all (end - at) (drop at text) (omega arith))))
