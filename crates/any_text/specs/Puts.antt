-- Bytes put one behind the other: the content, the place and the room. Assumes nothing.
use Rattle.std.specs.Prelude.{◌≡◌, refl, List, [], ◌∷◌, ◌++◌, ℕ, suc, ◌+◌, ◌≤◌, ◌<◌, length, set, take, drop, get_or}
use Rattle.std.proofs.Common.{sym, ap, ap₂, ◌∙◌, add-zero, add-suc, suc-add, add-one, arith, length-append, take-suc, take_at, length-take-le}
use Rattle.std.proofs.lemmas.List.Edits.{sets, sets-eq}
use Rattle.std.proofs.Math.Seq.{length-sets}
use Rattle.any_text.specs.Put.{Room, Put}

sets_then : (l : List ℕ) (at : ℕ) (a b : List ℕ) → sets (sets l at a) (at + length a) b ≡ sets l at (a ++ b)
sets_then l at [] b = ap (λ (k : ℕ). sets l k b) (add-zero at)
sets_then l at (x ∷ a) b = rw (add-suc at (length a), ← suc-add at (length a)) (sets_then (set l at x) (suc at) a b)

module _ {l : List ℕ} {at : ℕ} {a : List ℕ} where
  pub put-length : {m : List ℕ} {i : ℕ} → Put l at a m i → length m ≡ length l
  put-length p = ap length p.content ∙ length-sets l at a

  -- no second answer
  pub put_only : {m k : List ℕ} {i j : ℕ} → Put l at a m i → Put l at a k j → (m ≡ k) × (i ≡ j)
  put_only p q = (p.content ∙ sym q.content, p.place ∙ sym q.place)

  pub put_then : {b m k : List ℕ} {i j : ℕ} → Put l at a m i → Put m i b k j → Put l at (a ++ b) k j
  put_then {b} p q = record {
    content = q.content ∙ rw (p.content, p.place) (sets_then l at a b);
    place = let n = length-append a b in omega arith;
  }

  pub room-first : (b : List ℕ) → Room l at (a ++ b) → Room l at a
  room-first b r = record { enough = let n = length-append a b in omega arith }

  pub room-then : {b m : List ℕ} {i : ℕ} → Put l at a m i → Room l at (a ++ b) → Room m i b
  room-then {b} p r = record { enough = let n = length-append a b in let k = put-length p in omega arith }

-- What was put at the front stands there.
pub put-read : {bytes before after : List ℕ} {n : ℕ} → Put before 0 bytes after n → length bytes ≤ length before → take n after ≡ bytes
put-read {bytes} {before} {after} {n} p h =
    let whole : n ≡ length bytes = (let z = p.place in omega arith) in
    ap₂ take whole (p.content ∙ sets-eq bytes before 0 (omega arith)) ∙ take_at bytes (drop (0 + length bytes) before) (length bytes) refl

-- ---- a word, byte by byte

pub put-none : (l : List ℕ) (at : ℕ) → Put l at [] l at
put-none l at = record { content = refl; place = omega arith }

module _ {l m : List ℕ} {at i : ℕ} (word : List ℕ) (n : ℕ) (some : n < length word) (p : Put l at (take n word) m i) where
  pub put-more : {k : List ℕ} {j : ℕ} → Put m i (get_or word n 0 ∷ []) k j → Put l at (take (n + 1) word) k j
  put-more q = rw (add-one n, take-suc word n 0 some) (put_then p q)

  pub room-more : Room l at word → Room m i (get_or word n 0 ∷ [])
  room-more r = record { enough = let k = put-length p in let t = length-take-le n word (omega arith) in omega arith }

-- For `search`: bytes put by one call after another.
pub ruleset puts = (put_then, room-first, room-then)
