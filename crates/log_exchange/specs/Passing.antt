-- Whether all records between two may be passed, one after another. Assumes nothing.
use Rattle.std.specs.Prelude.{◌≡◌, refl, Bool, true, false, ◌&&◌, List, ℕ, zero, suc, ◌+◌, ◌-◌, ◌≤◌, ◌<◌, length, get_or, take, drop}
use Rattle.std.specs.List.{list_all}
use Rattle.std.proofs.Common.{sym, ap, ap₂, ◌∙◌, arith, drop-cons}
use Rattle.std.proofs.Math.Bool.{and-false}
use Rattle.std.proofs.Math.Decide.{ℕ_discrete}
use Rattle.rules.specs.Range.{all}
use Rattle.any_search.specs.Places.{from}
use Rattle.log_read.specs.declared.Record.{Record}
use Rattle.log_records.specs.Rows.{no_row, row_at, rows_of}
use Rattle.log_records.specs.Places.{rows-get}
use Rattle.log_exchange.specs.Exchange.{may_pass, allowed}

pub all-false : (test : ℕ → Bool) (a k j : ℕ) → a ≤ j → j < a + k → test j ≡ false → all test (from a k) ≡ false
unfolding all
all-false test a zero j l u e = absurd (omega arith)
all-false test a (suc k) j l u e = go (ℕ_discrete a j) (λ m. all-false test (suc a) k j m (omega arith) e)
  where
    go : Dec (a ≡ j) → (suc a ≤ j → all test (from (suc a) k) ≡ false) → test a && all test (from (suc a) k) ≡ false
    go (yes s) next = rw (ap test s ∙ e)
    go (no d) next = rw (next (omega arith)) (and-false (test a))

-- The library's test of all items between two places.
pub all-between : (test : Record → Bool) (none : Record) (l : List Record) (a k : ℕ) → a + k ≤ length l → list_all test (take k (drop a l)) ≡ all (λ z. test (get_or l z none)) (from a k)
unfolding all
all-between test none l a zero h = refl
all-between test none l a (suc k) h =
    rw (drop-cons l a none (omega arith)) (ap (λ (b : Bool). test (get_or l a none) && b) (all-between test none l (suc a) k (omega arith)))

-- ---- by the records that the code has

module _ (bound : ℕ) (l : List Record) where
  abbrev may : Bool → ℕ → ℕ → Bool
  may up m z = may_pass bound up (row_at l m) (row_at l z)

  in-rows : (up : Bool) (m a k : ℕ) → all (may up m) (from a k) ≡ all (λ z. may_pass bound up (get_or (rows_of l) m no_row) (get_or (rows_of l) z no_row)) (from a k)
  unfolding all
  in-rows up m a zero = refl
  in-rows up m a (suc k) = ap₂ (λ (b c : Bool). b && c) (ap₂ (may_pass bound up) (sym (rows-get l m)) (sym (rows-get l a))) (in-rows up m (suc a) k)

  pub allowed-up : (x y : ℕ) → all (may true y) (from x (y - x)) ≡ allowed bound (rows_of l) true x y
  allowed-up x y = in-rows true y x (y - x)

  pub allowed-down : (x y : ℕ) → all (may false x) (from (x + 1) (y + 1 - (x + 1))) ≡ allowed bound (rows_of l) false x y
  allowed-down x y =
      let one : x + 1 ≡ suc x = omega arith in
      let same : y + 1 - suc x ≡ y - x = omega arith in
      rw (one, same) (in-rows false x (suc x) (y - x))
