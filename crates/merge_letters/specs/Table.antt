-- What the table says of the letters of two steps is whether they are independent. Assumes nothing.
use Rattle.std.specs.Prelude.{◌≡◌, refl, Bool, true, false, List, ℕ, ◌+◌, ◌*◌, ◌/◌, ◌%◌, ◌≤◌, ◌<◌, eqb, length, set}
use Rattle.std.proofs.Common.{ap, ap₂, ◌∙◌, arith, length-set}
use Rattle.rules.specs.Limits.{most_nodes}
use Rattle.rules.specs.Step.{Event}
use Rattle.rules_exchange.specs.Independent.{independent}
use Rattle.any_search.specs.Holds.{Holds, holds_more}
use Rattle.merge_letters.specs.Letters.{letter_of, may_pass, table_size, bit, TableFor, passes}
use Rattle.merge_letters.specs.Known.{letter-small, by-letters}

bit-one : (b : Bool) → eqb (bit b) 1 ≡ b
bit-one true = refl
bit-one false = refl

module _ {count : ℕ} {t : List ℕ} (for : TableFor count t) where
  pub table-says : (a b : ℕ) → a < 128 → b < 256 → passes t a b ≡ may_pass count a b
  table-says a b h k =
      let p : (256 * a + b) / 256 ≡ a = omega arith in
      let q : (256 * a + b) % 256 ≡ b = omega arith in
      ap (λ (x : ℕ). eqb x 1) (for.entries (256 * a + b) (omega arith) ∙ ap₂ (λ (x y : ℕ). bit (may_pass count x y)) p q) ∙ bit-one (may_pass count a b)

  pub passes-free : count ≤ most_nodes → (e f : Event) → passes t (letter_of e) (letter_of f) ≡ independent count e f
  unfolding may_pass
  passes-free few e f =
      let a = letter-small e in
      let b = letter-small f in
      table-says (letter_of e) (letter_of f) (omega arith) (omega arith) ∙ by-letters count few e f

-- ---- the table while it is filled

pub record Filled (count : ℕ) (t : List ℕ) (n : ℕ) : Type 0 where
  pub size : length t ≡ table_size
  pub entries : Holds (λ i. bit (may_pass count (i / 256) (i % 256))) t n

pub filled_more : (count : ℕ) (t : List ℕ) (n v : ℕ) → n < table_size → v ≡ bit (may_pass count (n / 256) (n % 256)) → Filled count t n → Filled count (set t n v) (n + 1)
filled_more count t n v h e f = record {
  size = length-set t n v ∙ f.size;
  entries = holds_more (λ i. bit (may_pass count (i / 256) (i % 256))) t n v (let z = f.size in omega arith) e f.entries;
}

pub filled-all : (count : ℕ) (t : List ℕ) (n : ℕ) → table_size ≤ n → Filled count t n → TableFor count t
filled-all count t n h f = record { size = f.size; entries = λ i k. f.entries i (omega arith) }
