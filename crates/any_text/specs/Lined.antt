-- Lines put into a buffer one behind the other, none longer than `most` bytes. Assumes nothing.
use Rattle.std.specs.Prelude.{◌≡◌, refl, List, ◌++◌, ℕ, zero, suc, ◌+◌, ◌*◌, ◌≤◌, ◌<◌, length}
use Rattle.std.proofs.Common.{sym, ap, ap₂, ◌∙◌, append_assoc, append-nil, mul-le-mul_left, add-one, arith}
use Rattle.std.proofs.Math.Nat.{mul-suc}
use Rattle.any_text.specs.Put.{Room, Put}
use Rattle.any_text.specs.Puts.{put-none, put_then, put-length}
use Rattle.any_text.specs.Line.{lines}

pub lines_same : (f g : ℕ → List ℕ) (n : ℕ) → ((i : ℕ) → i < n → f i ≡ g i) → lines f n ≡ lines g n
unfolding lines
lines_same f g zero h = refl
lines_same f g (suc n) h = ap₂ (λ (a b : List ℕ). a ++ b) (lines_same f g n (λ i k. h i (omega arith))) (h n (omega arith))

pub lines-first : (f : ℕ → List ℕ) (n : ℕ) → lines f (suc n) ≡ f 0 ++ lines (λ i. f (suc i)) n
unfolding lines
lines-first f zero = sym (append-nil (f 0))
lines-first f (suc n) = ap (λ (l : List ℕ). l ++ f (suc n)) (lines-first f n) ∙ append_assoc (f 0) (lines (λ i. f (suc i)) n) (f (suc n))

-- The first n lines are put from the place `at` on.
pub record Lined (f : ℕ → List ℕ) (most : ℕ) (before : List ℕ) (at n : ℕ) (after : List ℕ) (next : ℕ) : Type 0 where
  pub put : Put before at (lines f n) after next
  pub short : next ≤ at + most * n

pub lined-none : (f : ℕ → List ℕ) (most : ℕ) (l : List ℕ) (at : ℕ) → Lined f most l at 0 l at
unfolding lines
lined-none f most l at = record { put = put-none l at; short = omega arith }

-- The next line is known, and is short enough.
module _ {f : ℕ → List ℕ} {most : ℕ} {l : List ℕ} {at n : ℕ} {m : List ℕ} {i : ℕ} (p : Lined f most l at n m i) {line : List ℕ} (short : length line ≤ most) where
  pub lined-more : line ≡ f n → {k : List ℕ} {j : ℕ} → Put m i line k j → Lined f most l at (n + 1) k j
  unfolding lines
  lined-more e q = record {
    put = rw (add-one n, ← e) (put_then p.put q);
    short = let s = p.short in let t = q.place in rw (add-one n, mul-suc most n) (omega arith);
  }

  pub lined-room : (total : ℕ) → n < total → at + most * total ≤ length l → Room m i line
  lined-room total h r =
      let s = p.short in
      let same = put-length p.put in
      let more : most * suc n ≤ most * total = mul-le-mul_left most h in
      let t : most * suc n ≡ most * n + most = mul-suc most n in
      record { enough = omega arith }
