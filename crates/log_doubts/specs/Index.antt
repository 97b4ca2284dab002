-- What is made once for a search over n records: the letters of their steps, and a time for each place that none from there on is before. Assumes nothing.
use Rattle.std.specs.Prelude.{◌≡◌, ◌≢◌, Bool, ◌||◌, List, ℕ, ◌+◌, ◌*◌, ◌≤◌, ◌<◌, eqb, leb, length, get_or, set}
use Rattle.std.proofs.Math.Path.{refl, sym}
use Rattle.std.proofs.Common.{ap, ap₂, ◌∙◌, arith, length-set, get_or-set_same, get_or-set_other}
use Rattle.std.proofs.Math.Bool.{true, false, not}
use Rattle.std.proofs.Math.Decide.{ℕ_discrete}
use borrow.Author.Tests.{leb-false, lt-leb, eq-eqb, ne_eqb}
use Rattle.rules_exchange.specs.Independent.{independent}
use Rattle.merge_verdict.specs.Clocks.{fixed}
use Rattle.any_search.specs.Holds.{Holds, holds_more}
use Rattle.merge_letters.specs.Letters.{letter_of, TableFor, passes}
use Rattle.merge_letters.specs.Table.{passes-free}
use Rattle.merge_letters.specs.Known.{letter-small}
use Rattle.log_read.specs.declared.Record.{Record}
use Rattle.log_records.specs.Rows.{row_at}
use Rattle.log_doubts.specs.Doubts.{in_doubt}

-- The time of a record.
abbrev pub time_at : List Record → ℕ → ℕ
time_at l i = (row_at l i).logged.time

-- The places up to i hold the letters of their records.
pub record Lettered (l : List Record) (letters : List ℕ) (i : ℕ) : Type 0 where
  pub size : length letters ≡ length l
  pub are : Holds (λ q. letter_of (row_at l q).logged.event) letters i

-- The places from i on hold times that no record from there on is before.
pub record Least (l : List Record) (least : List ℕ) (i : ℕ) : Type 0 where
  pub size : length least ≡ length l
  pub low : (q j : ℕ) → i ≤ q → q ≤ j → j < length l → get_or least q 0 ≤ time_at l j

-- All that a search is lent.
pub record Index (count : ℕ) (l : List Record) (table letters least : List ℕ) : Type 0 where
  pub few : count ≤ 8
  pub table-for : TableFor count table
  pub lettered : Lettered l letters (length l)
  pub timed : Least l least 0

-- ---- filling

pub lettered-more : {l : List Record} {letters : List ℕ} {i a : ℕ} → i < length l → a ≡ letter_of (row_at l i).logged.event → Lettered l letters i → Lettered l (set letters i a) (i + 1)
lettered-more {l} {letters} {i} {a} h e x = record {
  size = length-set letters i a ∙ x.size;
  are = holds_more (λ q. letter_of (row_at l q).logged.event) letters i a (let s = x.size in omega arith) e x.are;
}

-- The least times while they are put down from the end: t is one for place i.
pub record Timing (l : List Record) (least : List ℕ) (i t : ℕ) : Type 0 where
  pub high : i ≤ length l
  pub before : (j : ℕ) → i ≤ j → j < length l → t ≤ time_at l j
  pub done : Least l least i

module _ {l : List Record} {least : List ℕ} {t : ℕ} where
  pub timing-starts : length least ≡ length l → Timing l least (length l) t
  timing-starts h = record { high = omega arith; before = λ j a b. absurd (omega arith); done = record { size = h; low = λ q j a b c. absurd (omega arith) } }

  pub timing-more : {i j u : ℕ} → i ≡ j + 1 → u ≤ t → u ≤ time_at l j → Timing l least i t → Timing l (set least j u) j u
  timing-more {i} {j} {u} e v w x = record {
    high = let h = x.high in omega arith;
    before = λ k a b. early k a b (ℕ_discrete j k);
    done = record {
      size = length-set least j u ∙ x.done.size;
      low = λ q k a b c. low q k a b c (ℕ_discrete j q);
    };
  }
    where
      early : (k : ℕ) → j ≤ k → k < length l → Dec (j ≡ k) → u ≤ time_at l k
      early k a b (yes s) = let z = ap (time_at l) s in omega arith
      early k a b (no d) = let z = x.before k (omega arith) b in omega arith

      low : (q k : ℕ) → j ≤ q → q ≤ k → k < length l → Dec (j ≡ q) → get_or (set least j u) q 0 ≤ time_at l k
      low q k a b c (yes s) =
          let is : get_or (set least j u) q 0 ≡ u = ap (λ (m : ℕ). get_or (set least j u) m 0) (sym s) ∙ get_or-set_same least j u 0 (let y = x.done.size in let h = x.high in omega arith) in
          let w = early k (omega arith) c (ℕ_discrete j k) in
          omega arith
      low q k a b c (no d) =
          let is : get_or (set least j u) q 0 ≡ get_or least q 0 = get_or-set_other least j q u 0 (λ s. d (sym s)) in
          let w = x.done.low q k (omega arith) b c in
          omega arith

-- ---- what they say

module _ {count : ℕ} {l : List Record} {table letters least : List ℕ} (index : Index count l table letters least) where
  pub letter-low : (i : ℕ) → i < length l → get_or letters i 0 < 126
  letter-low i h = let z = index.lettered.are i h in let s = letter-small (row_at l i).logged.event in omega arith

  -- Two records by their letters, logs and times.
  module _ (bound : ℕ) {x y : ℕ} (h : x < length l) (k : y < length l) where
    by-letters : eqb (get_or table (256 * get_or letters x 0 + get_or letters y 0) 0) 1 ≡ independent count (row_at l x).logged.event (row_at l y).logged.event
    by-letters =
        ap₂ (λ (a b : ℕ). passes table a b) (index.lettered.are x h) (index.lettered.are y k)
        ∙ passes-free index.table-for index.few (row_at l x).logged.event (row_at l y).logged.event

    pub not-dependent : get_or table (256 * get_or letters x 0 + get_or letters y 0) 0 ≡ 1 → false ≡ in_doubt count bound (row_at l x) (row_at l y)
    unfolding in_doubt fixed
    not-dependent e = rw (sym by-letters ∙ eq-eqb _ 1 e) (sym (ends (eqb (row_at l x).logged.log (row_at l y).logged.log) _))
      where
        ends : (a b : Bool) → not (a || true || b) ≡ false
        ends true b = refl
        ends false b = refl

    pub of-one-log : (row_at l x).logged.log ≡ (row_at l y).logged.log → false ≡ in_doubt count bound (row_at l x) (row_at l y)
    unfolding in_doubt fixed
    of-one-log e = rw (eq-eqb _ _ e)

    pub by-clocks : get_or table (256 * get_or letters x 0 + get_or letters y 0) 0 ≢ 1 → (row_at l x).logged.log ≢ (row_at l y).logged.log
        → {m : Bool} → m ≡ leb (time_at l y) (time_at l x + bound) → m ≡ in_doubt count bound (row_at l x) (row_at l y)
    unfolding in_doubt fixed
    by-clocks e d m = m ∙ rw (ne_eqb _ _ d, sym by-letters ∙ ne_eqb _ 1 e) (twice (leb (time_at l y) (time_at l x + bound)))
      where
        twice : (a : Bool) → a ≡ not (not a)
        twice true = refl
        twice false = refl

  -- No record from place y on may stand before a record of that time.
  pub too-late : (bound i y : ℕ) → leb (get_or least y 0) (time_at l i + bound) ≡ false → (k : ℕ) → y ≤ k → k < length l → in_doubt count bound (row_at l i) (row_at l k) ≡ false
  unfolding in_doubt fixed
  too-late bound i y e k a b =
      let late = leb-false (get_or least y 0) (time_at l i + bound) e in
      let low = index.timed.low y k (omega arith) a b in
      rw (lt-leb (time_at l k) (time_at l i + bound) (omega arith)) (ends (eqb (row_at l i).logged.log (row_at l k).logged.log) (independent count (row_at l i).logged.event (row_at l k).logged.event))
    where
      ends : (a b : Bool) → not (a || b || true) ≡ false
      ends true b = refl
      ends false true = refl
      ends false false = refl
