-- A line read word by word. Assumes nothing.
use Rattle.std.specs.Prelude.{◌≡◌, refl, List, [], ◌∷◌, ◌++◌, Option, Some, None, ℕ, suc, ◌+◌, ◌≤◌, ◌<◌, length, get_or, take, drop, set}
use Rattle.std.proofs.Common.{sym, ap, ◌∙◌, add-one, arith, append-nil, length-set, drop_of_length-le, drop-cons, take_all, take-suc-set}
use Rattle.std.proofs.Math.Seq.{append_snoc}
use Rattle.log_read.specs.declared.Line.TheVariants.{Other}
use Rattle.any_words.specs.Text.{number_of}
use Rattle.any_words.specs.Pieces.{cut_words, words-cut}
use Rattle.log_read.specs.Line.{before, numbers, sorted, line_of}

-- ---- up to four numbers

four : (l : List ℕ) → length l ≡ 4 → l ≡ get_or l 0 0 ∷ get_or l 1 0 ∷ get_or l 2 0 ∷ get_or l 3 0 ∷ []
four l h =
    drop-cons l 0 0 (omega arith)
    ∙ ap (λ r. get_or l 0 0 ∷ r) (drop-cons l 1 0 (omega arith)
    ∙ ap (λ r. get_or l 1 0 ∷ r) (drop-cons l 2 0 (omega arith)
    ∙ ap (λ r. get_or l 2 0 ∷ r) (drop-cons l 3 0 (omega arith)
    ∙ ap (λ r. get_or l 3 0 ∷ r) (drop_of_length-le l {i = 4} (omega arith)))))

-- ---- the numbers of a line

-- Numbers, and those behind them.
abbrev joined : List ℕ → Option (List ℕ) → Option (List ℕ)
joined ns None = None
joined ns (Some ms) = Some (ns ++ ms)

joined-more : (ns : List ℕ) (v : ℕ) (o : Option (List ℕ)) → joined ns (before (Some v) o) ≡ joined (ns ++ (v ∷ [])) o
joined-more ns v None = refl
joined-more ns v (Some ms) = ap Some (sym (append_snoc ns v ms))

-- The numbers of the first k words are read, n of them.
pub record Scanned (line values : List ℕ) (n k : ℕ) : Type 0 where
  pub size : length values ≡ 4
  pub few : n ≤ 4
  pub going : joined (take n values) (numbers (drop k (cut_words line))) ≡ numbers (cut_words line)

joined-none : (o : Option (List ℕ)) → joined [] o ≡ o
joined-none None = refl
joined-none (Some ms) = refl

pub scan-starts : (line values : List ℕ) → length values ≡ 4 → Scanned line values 0 0
scan-starts line values h = record { size = h; few = omega arith; going = joined-none (numbers (cut_words line)) }

module _ {line values : List ℕ} {n k : ℕ} (s : Scanned line values n k) where
  said : sorted (joined (take n values) (numbers (drop k (cut_words line)))) ≡ line_of line
  unfolding line_of
  said = ap sorted s.going ∙ ap (λ (ws : List (List ℕ)). sorted (numbers ws)) (words-cut line)

  pub scan-ends : length (cut_words line) ≤ k → sorted (Some (take n values)) ≡ line_of line
  scan-ends h =
      ap (λ (l : List ℕ). sorted (Some l)) (sym (append-nil (take n values)))
      ∙ ap (λ (ws : List (List ℕ)). sorted (joined (take n values) (numbers ws))) (sym (drop_of_length-le (cut_words line) {i = k} h))
      ∙ said

  module _ {w : List ℕ} (t : (k < length (cut_words line)) × (w ≡ get_or (cut_words line) k w)) {o : Option ℕ} (is : o ≡ number_of w) where
    rest : Option (List ℕ)
    rest = numbers (drop (suc k) (cut_words line))

    next : joined (take n values) (before o rest) ≡ joined (take n values) (numbers (drop k (cut_words line)))
    unfolding rest
    next =
        ap (λ (x : Option ℕ). joined (take n values) (before x (numbers (drop (suc k) (cut_words line))))) (is ∙ ap number_of t.1)
        ∙ ap (λ (ws : List (List ℕ)). joined (take n values) (numbers ws)) (sym (drop-cons (cut_words line) k w t.0))

    pub scan-bad : o ≡ None → Other ≡ line_of line
    scan-bad e = ap (λ (x : Option ℕ). sorted (joined (take n values) (before x rest))) (sym e) ∙ ap sorted next ∙ said

    module _ {v : ℕ} (e : o ≡ Some v) where
      next-value : joined (take n values ++ (v ∷ [])) rest ≡ joined (take n values) (numbers (drop k (cut_words line)))
      next-value = sym (joined-more (take n values) v rest) ∙ ap (λ (x : Option ℕ). joined (take n values) (before x rest)) (sym e) ∙ next

      pub scan-full : 4 ≤ n → Other ≡ line_of line
      scan-full k =
          let all : take n values ≡ get_or values 0 0 ∷ get_or values 1 0 ∷ get_or values 2 0 ∷ get_or values 3 0 ∷ [] =
          take_all n values (let z = s.size in omega arith) ∙ four values s.size in
          go rest
          ∙ ap (λ (l : List ℕ). sorted (joined (l ++ (v ∷ [])) rest)) (sym all)
          ∙ ap sorted next-value ∙ said
        where
          go : (o : Option (List ℕ)) → Other ≡ sorted (joined (get_or values 0 0 ∷ get_or values 1 0 ∷ get_or values 2 0 ∷ get_or values 3 0 ∷ v ∷ []) o)
          go None = refl
          go (Some ms) = refl

      pub scan-more : n < 4 → {m : ℕ} → m ≡ k + 1 → Scanned line (set values n v) (n + 1) m
      unfolding rest
      scan-more h {m} q = record {
        size = length-set values n v ∙ s.size;
        few = omega arith;
        going = rw (q, add-one k)
            (ap (λ (l : List ℕ). joined l (numbers (drop (suc k) (cut_words line)))) (ap (λ (x : ℕ). take x (set values n v)) (add-one n) ∙ take-suc-set values n v (let z = s.size in omega arith))
            ∙ next-value ∙ s.going);
      }
