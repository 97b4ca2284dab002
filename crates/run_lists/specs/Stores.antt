-- Stores into a list one behind the other, and into a part of it. Assumes nothing.
use Rattle.std.specs.Prelude.{◌≡◌, refl, List, [], ◌∷◌, ◌++◌, ℕ, suc, ◌+◌, ◌-◌, ◌≤◌, length, set, take, drop}
use Rattle.std.proofs.Common.{sym, ap, ◌∙◌, append-nil, zero-add, suc-add, add-suc, arith, length-drop, take-append-drop, drop_of_length-le, length-take-le, take_all}
use Rattle.std.proofs.lemmas.List.Edits.{sets}

-- four stores in the code
pub stores : (l : List ℕ) (i a b c d : ℕ) → set (set (set (set l i a) (i + 1) b) (i + 2) c) (i + 3) d ≡ sets l i (a ∷ b ∷ c ∷ d ∷ [])
stores l i a b c d =
    let one : i + 1 ≡ suc i = omega arith in
    let two : i + 2 ≡ suc (suc i) = omega arith in
    let three : i + 3 ≡ suc (suc (suc i)) = omega arith in
    rw (one, two, three)

set-behind : (p l : List ℕ) (i v : ℕ) → set (p ++ l) (length p + i) v ≡ p ++ set l i v
set-behind [] l i v = rw zero-add
set-behind (x ∷ p) l i v = rw suc-add (ap (λ (t : List ℕ). x ∷ t) (set-behind p l i v))

-- stores behind the first of two lists
pub sets_behind : (vs p l : List ℕ) (i : ℕ) → sets (p ++ l) (length p + i) vs ≡ p ++ sets l i vs
sets_behind [] p l i = refl
sets_behind (v ∷ vs) p l i = rw (set-behind p l i v, ← add-suc (length p) i) (sets_behind vs p (set l i v) (suc i))

-- what a callee stored into the part from a place on, seen in the whole
pub sets-part : (a : ℕ) (l vs : List ℕ) (i : ℕ) (part : List ℕ) → a ≤ length l → part ≡ sets (take (length l - a) (drop a l)) i vs
    → take a l ++ (part ++ drop (length l - a) (drop a l)) ≡ sets l (a + i) vs
sets-part a l vs i part h e =
    let n : length (drop a l) ≤ length l - a = simp length-drop (omega arith) in
    rw (e, take_all (length l - a) (drop a l) n, drop_of_length-le (drop a l) {i = length l - a} n, append-nil)
    (sym (sets_behind vs (take a l) (drop a l) i)
    ∙ ap (λ (k : ℕ). sets (take a l ++ drop a l) (k + i) vs) (length-take-le a l h)
    ∙ ap (λ (t : List ℕ). sets t (a + i) vs) (take-append-drop a l))
