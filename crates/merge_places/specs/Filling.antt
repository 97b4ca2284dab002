-- The letters of a list, and a row of places, while they are put down one after another. Assumes nothing.
use Rattle.std.specs.Prelude.{◌≡◌, refl, List, ℕ, zero, suc, ◌+◌, ◌<◌, length, get_or, set}
use Rattle.std.proofs.Common.{sym, ap, ◌∙◌, arith, length-set, ext_get_or}
use Rattle.run_lists.specs.EventList.{record_at, record_count}
use Rattle.merge_letters.specs.Letters.{letter_of}
use Rattle.any_search.specs.Places.{from}
use Rattle.any_search.specs.Holds.{Holds, holds_more}

-- ---- letters

-- The first n places hold the letters of the first n records, and there is a place for each record.
pub record Lettered (list letters : List ℕ) (n : ℕ) : Type 0 where
  pub size : length letters ≡ record_count list
  pub are : Holds (λ q. letter_of (record_at list q)) letters n

pub lettered-more : {list letters : List ℕ} {n a : ℕ} → n < record_count list → a ≡ letter_of (record_at list n) → Lettered list letters n → Lettered list (set letters n a) (n + 1)
lettered-more {list} {letters} {n} {a} h e l = record {
  size = length-set letters n a ∙ l.size;
  are = holds_more (λ q. letter_of (record_at list q)) letters n a (let z = l.size in omega arith) e l.are;
}

-- ---- places

pub length_from : (a n : ℕ) → length (from a n) ≡ n
length_from a zero = refl
length_from a (suc n) = ap suc (length_from (suc a) n)

pub get_d-from : (a n q : ℕ) → q < n → get_or (from a n) q 0 ≡ a + q
get_d-from a zero q h = absurd (omega arith)
get_d-from a (suc n) zero h = omega arith
get_d-from a (suc n) (suc q) h = let i = get_d-from (suc a) n q (omega arith) in omega arith

pub holds-all : (l : List ℕ) (n : ℕ) → length l ≡ n → Holds (λ q. q) l n → l ≡ from 0 n
holds-all l n e p = ext_get_or 0 l (from 0 n) (e ∙ sym (length_from 0 n)) (λ q h. p q (omega arith) ∙ sym (let i = get_d-from 0 n q (omega arith) in omega arith))
