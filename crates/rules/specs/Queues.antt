-- Queues and lists of nodes: appending, taking off, fullness, looking up.
use Rattle.std.specs.Prelude.{Bool, true, false, cond, ◌&&◌, ◌||◌, List, [], ◌∷◌, ◌++◌, ℕ, suc, length, ltb, eqb}
use Rattle.rules.specs.Limits.{queue_length}

module _ {A : Type 0} where
  -- x goes last.
  unfoldable pub push : A → List A → List A
  push x q = q ++ (x ∷ [])

  -- The head; `other` where there is none.
  unfoldable pub first : A → List A → A
  first other [] = other
  first other (x ∷ q) = x

  -- The queue with its head taken off.
  unfoldable pub rest : List A → List A
  rest [] = []
  rest (x ∷ q) = q

  unfoldable pub empty : List A → Bool
  empty [] = true
  empty (x ∷ q) = false

  -- The queue is not full.
  unfoldable pub room : List A → Bool
  room q = ltb (length q) queue_length

  -- None of the queues is full.
  unfoldable pub room_all : List (List A) → Bool
  room_all [] = true
  room_all (q ∷ qs) = room q && room_all qs

unfoldable pub has : ℕ → List ℕ → Bool
has n [] = false
has n (x ∷ l) = eqb n x || has n l

-- The list without the first n in it.
unfoldable pub remove : ℕ → List ℕ → List ℕ
remove n [] = []
remove n (x ∷ l) = cond (eqb n x) l (x ∷ remove n l)

-- How many stand before the first n; all of them where there is none.
unfoldable pub before : ℕ → List ℕ → ℕ
before n [] = 0
before n (x ∷ l) = cond (eqb n x) 0 (suc (before n l))
