-- A row that is filled from its front: the first places hold what is said of them. Assumes nothing.
use Rattle.std.specs.Prelude.{◌≡◌, List, ℕ, ◌+◌, ◌<◌, length, get_or, set}
use Rattle.std.proofs.Common.{sym, ap, ◌∙◌, arith, get_or-set_same, get_or-set_other}
use Rattle.std.proofs.Math.Decide.{dec_lt}

-- The first n places hold what f says of them.
abbrev pub Holds : (ℕ → ℕ) → List ℕ → ℕ → Type 0
Holds f l n = (q : ℕ) → q < n → get_or l q 0 ≡ f q

pub holds_more : (f : ℕ → ℕ) (l : List ℕ) (n a : ℕ) → n < length l → a ≡ f n → Holds f l n → Holds f (set l n a) (n + 1)
holds_more f l n a h e p q k = go (dec_lt q n)
  where
    go : Dec (q < n) → get_or (set l n a) q 0 ≡ f q
    go (yes b) = get_or-set_other l n q a 0 (λ i. omega arith) ∙ p q b
    go (no b) =
        let same : q ≡ n = omega arith in
        ap (λ (i : ℕ). get_or (set l n a) i 0) same ∙ get_or-set_same l n a 0 h ∙ e ∙ ap f (sym same)
