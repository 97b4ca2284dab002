-- A search in a list of numbers. Assumes nothing.
use Rattle.std.specs.Prelude.{◌≡◌, refl, Bool, true, false, cond, ◌||◌, List, [], ◌∷◌, ℕ, suc, eqb, ltb, length}
use Rattle.std.proofs.Common.{sym, arith, lt-ltb}
use Rattle.std.proofs.Math.Dec.{leb-suc-suc}
use Rattle.rules.specs.Queues.{before, has}

-- a list has what the search for it does not pass all of
pub has-before : (n : ℕ) (l : List ℕ) → has n l ≡ ltb (before n l) (length l)
unfolding has before
has-before n [] = refl
has-before n (x ∷ l) = go (eqb n x) (has-before n l)
  where
    go : (b : Bool) → has n l ≡ ltb (before n l) (length l) → (b || has n l) ≡ ltb (cond b 0 (suc (before n l))) (suc (length l))
    go true h = sym (lt-ltb 0 (suc (length l)) (omega arith))
    go false h = rw leb-suc-suc h
