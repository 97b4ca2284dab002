-- A line read word by word, and words read one after another. Assumes nothing.
use Rattle.std.specs.Prelude.{◌≡◌, refl, Bool, true, false, cond, List, [], Option, Some, None, ◌∷◌, ℕ, suc, ◌-◌, ◌≤◌, ◌<◌, eqb, length, get_or, take, drop}
use Rattle.std.proofs.Common.{sym, ◌∙◌, arith, drop_of_length-le, drop-cons, take_all}
use Rattle.std.proofs.Math.Path.{ap}
use Rattle.std.proofs.Math.Decide.{dec_lt}
use Rattle.std.proofs.lemmas.Bool.{not-true}
use Rattle.any_search.specs.Seek.{Sought}
use Rattle.any_words.specs.Text.{is_blank, cut, pieces, full, words, same}
use Rattle.any_words.specs.Words.{blank_is, first_piece, only-piece, line-skip, line_word}
use Rattle.list_words.specs.declared.Line.TheVariants.{Blank, Nodes, Step, Other}
use Rattle.list_words.specs.Names.{bytes}
use Rattle.list_words.specs.Line.{byte_of, kind_said, step, said, of_words, is_hash, uncommented}

-- ---- a word, and a number behind it

module _ (word number : List ℕ) {b : Option ℕ} (is : b ≡ byte_of number) where
  pub said-bad : b ≡ None → Other ≡ said word (byte_of number)
  said-bad e = ap (said word) (sym e ∙ is)

  module _ {n : ℕ} (e : b ≡ Some n) {s : Bool} (test : s ≡ same word (bytes "nodes")) where
    here : cond s (Nodes n) (step (kind_said word) n) ≡ said word (byte_of number)
    here = ap (λ (c : Bool). cond c (Nodes n) (step (kind_said word) n)) test ∙ ap (said word) (sym e ∙ is)

    pub said-nodes : s ≡ true → Nodes n ≡ said word (byte_of number)
    said-nodes t = ap (λ (c : Bool). cond c (Nodes n) (step (kind_said word) n)) (sym t) ∙ here

    module _ (t : s ≡ false) {o : Option ℕ} (kind : o ≡ kind_said word) where
      with-kind : step o n ≡ said word (byte_of number)
      with-kind = ap (λ (x : Option ℕ). step x n) kind ∙ ap (λ (c : Bool). cond c (Nodes n) (step (kind_said word) n)) (sym t) ∙ here

      pub said-other : o ≡ None → Other ≡ said word (byte_of number)
      said-other i = ap (λ (x : Option ℕ). step x n) (sym i) ∙ with-kind

      pub said-step : {k : ℕ} → o ≡ Some k → Step k n ≡ said word (byte_of number)
      said-step i = ap (λ (x : Option ℕ). step x n) (sym i) ∙ with-kind

-- ---- two words

-- A third is one too many.
third : (v w : List ℕ) (b : ℕ) (l : List ℕ) → is_blank b ≡ false → of_words (v ∷ w ∷ words (b ∷ l)) ≡ Other
unfolding pieces
third v w b l e = rw e (go (pieces is_blank l))
  where
    go : (ps : List (List ℕ)) → of_words (v ∷ w ∷ full (cut false b ps)) ≡ Other
    go [] = refl
    go (p ∷ ps) = refl

module _ (line : List ℕ) {first : ℕ} (s : Sought (blank_is false line) 0 (length line) first) where
  none_left : (at : ℕ) → length line ≤ at → words (drop at line) ≡ []
  unfolding pieces
  none_left at h = ap words (drop_of_length-le line h)

  from_first : words line ≡ words (drop first line)
  from_first = line-skip line 0 first (omega arith) s

  pub words-none : length line ≤ first → Blank ≡ of_words (words line)
  words-none h = sym (ap of_words (from_first ∙ none_left first h))

  module _ (h : first < length line) {end : ℕ} (t : Sought (blank_is true line) first (length line) end) {second : ℕ} (u : Sought (blank_is false line) end (length line) second) where
    abbrev one : List ℕ
    one = take (end - first) (drop first line)

    from_second : words line ≡ one ∷ words (drop second line)
    from_second = from_first ∙ line_word line first end h (not-true _ (s.hit h)) t ∙ ap (λ (ws : List (List ℕ)). one ∷ ws) (line-skip line end second t.high u)

    pub words-one : length line ≤ second → Other ≡ of_words (words line)
    words-one k = sym (ap of_words (from_second ∙ ap (λ (ws : List (List ℕ)). one ∷ ws) (none_left second k)))

    module _ (k : second < length line) {last : ℕ} (v : Sought (blank_is true line) second (length line) last) {rest : ℕ} (w : Sought (blank_is false line) last (length line) rest) where
      abbrev two : List ℕ
      two = take (last - second) (drop second line)

      from-rest : words line ≡ one ∷ two ∷ words (drop rest line)
      from-rest = from_second ∙ ap (λ (ws : List (List ℕ)). one ∷ ws)
          (line_word line second last k (not-true _ (u.hit k)) v ∙ ap (λ (ws : List (List ℕ)). two ∷ ws) (line-skip line last rest v.high w))

      pub words-many : rest < length line → Other ≡ of_words (words line)
      words-many i = sym (ap of_words (from-rest ∙ ap (λ (l : List ℕ). one ∷ two ∷ words l) (drop-cons line rest 0 i)) ∙ third one two (get_or line rest 0) (drop (suc rest) line) (not-true _ (w.hit i)))

      pub words-two : length line ≤ rest → said one (byte_of two) ≡ of_words (words line)
      words-two i = sym (ap of_words (from-rest ∙ ap (λ (ws : List (List ℕ)). one ∷ two ∷ ws) (none_left rest i)))

-- ---- without its comment

pub uncommented-is : (line : List ℕ) {end : ℕ} → Sought (λ k. eqb (get_or line k 0) 35) 0 (length line) end → take end line ≡ uncommented line
uncommented-is line {end} s = go (dec_lt end (length line))
  where
    go : Dec (end < length line) → take end line ≡ uncommented line
    go (yes h) = ap (λ (ps : List (List ℕ)). get_or ps 0 []) (sym (first_piece is_hash line end (λ k i. s.none k (omega arith) i) h (s.hit h)))
    go (no h) = let high = s.high in
        take_all end line (omega arith) ∙ ap (λ (ps : List (List ℕ)). get_or ps 0 []) (sym (only-piece is_hash line (λ k i. s.none k (omega arith) (omega arith))))
