-- The place of a node in a mastership, as a loop over the backups finds it. Assumes nothing.
use Rattle.std.specs.Prelude.{◌≡◌, ◌≢◌, cond, ◌||◌, List, eqb, leb, length, drop, get_or}
use Rattle.std.proofs.Common.{sym, ◌∙◌, add-one, drop_of_length-le, drop-cons}
use Rattle.std.proofs.Math.Path.{ap}
use Prim.Native.Nat.{ℕ, suc, ◌+◌, ◌≤◌, ◌<◌}
use native.Mathlib.Omega.{arith}
use Rattle.std.proofs.Math.Decide.{ℕ_discrete, dec_le}
use borrow.Author.Tests.{eq-eqb, ne_eqb, le-leb, lt-leb}
use Rattle.rules.specs.State.{Mastership}
use Rattle.rules.specs.Queues.{before, has}
use Rattle.rules.specs.Ids.{named, place_of}
use Rattle.any_list.specs.Search.{has-before}

-- A loop has passed the first i of the list.
module _ (n : ℕ) (l : List ℕ) (i : ℕ) (passed : before n l ≡ i + before n (drop i l)) where
  pub before-end : length l ≤ i → before n l ≡ i
  unfolding before
  before-end h = let e = ap (before n) (drop_of_length-le l {i = i} h) in omega arith

  pub before_here : i < length l → get_or l i 0 ≡ n → before n l ≡ i
  unfolding before
  before_here h e = let z : before n (drop i l) ≡ 0 = rw (drop-cons l i 0 h, eq-eqb n (get_or l i 0) (sym e)) in omega arith

  pub before_on : i < length l → get_or l i 0 ≢ n → before n l ≡ i + 1 + before n (drop (i + 1) l)
  unfolding before
  before_on h e =
      let z : before n (drop i l) ≡ suc (before n (drop (suc i) l)) = rw (drop-cons l i 0 h, ne_eqb n (get_or l i 0) (λ q. e (sym q))) in
      rw (add-one i) (let y = z in omega arith)

-- A node is named exactly if its place is not past the last backup.
-- two comparisons that say the same
pub same-leb : (a b a' b' : ℕ) → (a ≤ b → a' ≤ b') → (a' ≤ b' → a ≤ b) → leb a b ≡ leb a' b'
same-leb a b a' b' f g = go (dec_le a b)
  where
    go : Dec (a ≤ b) → leb a b ≡ leb a' b'
    go (yes h) = le-leb a b h ∙ sym (le-leb a' b' (f h))
    go (no h) = lt-leb a b (omega arith) ∙ sym (lt-leb a' b' (let z : ¬ (a' ≤ b') = λ k. h (g k) in omega arith))

pub named-place : (n : ℕ) (m : Mastership) → named n m ≡ leb (place_of n m) (length m.backups)
unfolding named place_of
named-place n m = go (ℕ_discrete m.master n)
  where
    go : Dec (m.master ≡ n) → (eqb m.master n || has n m.backups) ≡ leb (cond (eqb m.master n) 0 (before n m.backups + 1)) (length m.backups)
    go (yes e) = simp (eq-eqb m.master n e) (sym (le-leb 0 (length m.backups) (omega arith)))
    go (no z) = simp (ne_eqb m.master n z) (has-before n m.backups ∙ ap (λ (k : ℕ). leb k (length m.backups)) (sym (add-one (before n m.backups))))
