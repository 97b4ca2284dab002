-- The first pairs in doubt, put down one after another. Assumes nothing.
use Rattle.std.specs.Prelude.{◌≡◌, refl, List, [], ◌∷◌, ◌++◌, ℕ, zero, suc, ◌+◌, ◌-◌, ◌≤◌, ◌<◌, length, take, drop, set}
use Rattle.std.proofs.Common.{sym, ap, ap₂, ◌∙◌, arith, append_assoc, append-nil, length-append, length-take}
use Rattle.std.proofs.lemmas.List.{take-append-le}
use Rattle.std.proofs.Math.Seq.{take-length}
use Rattle.std.proofs.lemmas.List.Edits.{sets, sets-eq}
use Rattle.any_search.specs.Places.{from}
use Rattle.log_read.specs.declared.Record.{Record}
use Rattle.log_records.specs.Rows.{rows_of}
use Rattle.log_records.specs.Places.{rows-length}
use Rattle.log_doubts.specs.declared.Pair.{Pair}
use Rattle.log_doubts.specs.Doubts.{doubt_at, pairs, doubts}

-- How many pairs are looked for.
abbrev pub most_pairs : ℕ
most_pairs = 17

-- These pairs, and no more, stand at the front.
pub record Found (ps : List Pair) (before after : List Pair) (count : ℕ) : Type 0 where
  pub all : count ≡ length ps
  pub put : after ≡ sets before 0 ps

-- These pairs are put behind the first `count`.
pub record Added (ps : List Pair) (before after : List Pair) (count next : ℕ) : Type 0 where
  pub all : next ≡ count + length ps
  pub put : after ≡ sets before count ps

sets-both : (a b l : List Pair) (i : ℕ) → sets l i (a ++ b) ≡ sets (sets l i a) (i + length a) b
sets-both [] b l i = let z : i + 0 ≡ i = omega arith in rw z
sets-both (p ∷ a) b l i = let z : i + suc (length a) ≡ suc i + length a = omega arith in rw z (sets-both a b (set l i p) (suc i))

added-both : {a b before middle after : List Pair} {i j k : ℕ} → Added a before middle i j → Added b middle after j k → Added (a ++ b) before after i k
added-both {a} {b} {before} {i = i} s t = record {
  all = let z = length-append a b in let x = s.all in let y = t.all in omega arith;
  put = t.put ∙ ap₂ (λ (l : List Pair) (n : ℕ). sets l n b) s.put s.all ∙ sym (sets-both a b before i);
}

added-one : (p : Pair) (l : List Pair) (i : ℕ) → Added (p ∷ []) l (set l i p) i (i + 1)
added-one p l i = record { all = refl; put = refl }

take-both : (n : ℕ) (a b : List Pair) → take n (a ++ b) ≡ take n a ++ take (n - length (take n a)) b
take-both zero a b = refl
take-both (suc n) [] b = let z : suc n - 0 ≡ suc n = omega arith in rw z
take-both (suc n) (p ∷ a) b = let z : suc n - suc (length (take n a)) ≡ n - length (take n a) = omega arith in rw z (ap (λ (l : List Pair). p ∷ l) (take-both n a b))

-- ---- a search

-- From `count` to k, some of the whole are put down, and the rest is left.
pub record Taking (whole rest before after : List Pair) (count k : ℕ) : Type 0 where
  pub done : List Pair
  pub added : Added done before after count k
  pub few : k ≤ most_pairs
  pub going : done ++ take (most_pairs - k) rest ≡ take (most_pairs - count) whole

pub taking-starts : (whole before : List Pair) {count : ℕ} → count ≤ most_pairs → Taking whole whole before before count count
taking-starts whole before h = record { done = []; added = record { all = omega arith; put = refl }; few = h; going = refl }

module _ {whole rest before after : List Pair} {count k : ℕ} (t : Taking whole rest before after count k) where
  all-taken : take (most_pairs - k) rest ≡ [] → Added (take (most_pairs - count) whole) before after count k
  all-taken e = let z : t.done ≡ take (most_pairs - count) whole = sym (append-nil t.done) ∙ ap (λ (l : List Pair). t.done ++ l) (sym e) ∙ t.going in rw (← z) t.added

  pub taking-full : most_pairs ≤ k → Added (take (most_pairs - count) whole) before after count k
  taking-full h = let z : most_pairs - k ≡ 0 = (let f = t.few in omega arith) in all-taken (ap (λ (n : ℕ). take n rest) z)

  pub taking-ends : rest ≡ [] → Added (take (most_pairs - count) whole) before after count k
  taking-ends e = all-taken (ap (take (most_pairs - k)) e ∙ nothing (most_pairs - k))
    where
      nothing : (n : ℕ) → take {A = Pair} n [] ≡ []
      nothing zero = refl
      nothing (suc n) = refl

  pub taking-on : {rest' : List Pair} → rest ≡ rest' → Taking whole rest' before after count k
  taking-on e = rw (← e) t

  pub taking-more : (ps : List Pair) {rest' : List Pair} → rest ≡ ps ++ rest' → {after' : List Pair} {k' : ℕ} → Added (take (most_pairs - k) ps) after after' k k' → Taking whole rest' before after' count k'
  taking-more ps {rest'} e {k' = k'} a =
      let n = length-take (most_pairs - k) ps in
      let f = t.few in
      let all = a.all in
      let left : most_pairs - k - length (take (most_pairs - k) ps) ≡ most_pairs - k' = omega arith in
      record {
        done = t.done ++ take (most_pairs - k) ps;
        added = added-both t.added a;
        few = omega arith;
        going =
            append_assoc t.done (take (most_pairs - k) ps) (take (most_pairs - k') rest')
            ∙ ap (λ (l : List Pair). t.done ++ l) (ap (λ (m : ℕ). take (most_pairs - k) ps ++ take m rest') (sym left) ∙ sym (take-both (most_pairs - k) ps rest') ∙ ap (take (most_pairs - k)) (sym e))
            ∙ t.going;
      }

  pub taking-one : {p : Pair} {rest' : List Pair} → rest ≡ p ∷ rest' → k < most_pairs → Taking whole rest' before (set after k p) count (k + 1)
  taking-one {p} {rest'} e h =
      let z : most_pairs - k ≡ suc (most_pairs - suc k) = omega arith in
      let one : take (most_pairs - k) (p ∷ []) ≡ p ∷ [] = ap (λ (n : ℕ). take n (p ∷ [])) z ∙ ap (λ (l : List Pair). p ∷ l) (nothing (most_pairs - suc k)) in
      taking-more (p ∷ []) e (rw one (added-one p after k))
    where
      nothing : (n : ℕ) → take {A = Pair} n [] ≡ []
      nothing zero = refl
      nothing (suc n) = refl

-- ---- all of them

pub found-all : {ps before after : List Pair} {count : ℕ} → Added ps before after 0 count → Found ps before after count
found-all a = record { all = let z = a.all in omega arith; put = a.put }

pub doubts-all : (count bound : ℕ) (l : List Record) → pairs (doubt_at count bound (rows_of l)) (length l) (from 0 (length l)) ≡ doubts count bound (rows_of l)
doubts-all count bound l = ap (λ (n : ℕ). pairs (doubt_at count bound (rows_of l)) n (from 0 n)) (sym (rows-length l))

-- What stands at the front.
pub found-front : {ps before after : List Pair} {count : ℕ} → Found ps before after count → count ≤ length before → take count after ≡ ps
found-front {ps} {before} {after} {count} f h =
    let a = f.all in
    let is : after ≡ ps ++ drop (0 + length ps) before = f.put ∙ sets-eq ps before 0 (omega arith) in
    ap₂ (λ (n : ℕ) (l : List Pair). take n l) a is ∙ take-append-le (length ps) ps (drop (0 + length ps) before) (omega arith) ∙ take-length ps

pub found-few : (ps : List Pair) {before after : List Pair} {count : ℕ} → Found (take most_pairs ps) before after count → count ≤ most_pairs
found-few ps f = let a = f.all in let n = length-take most_pairs ps in omega arith
