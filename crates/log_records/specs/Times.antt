-- Two times and a bound, compared without their sum; and the line that they give a pair. Assumes nothing.
use Rattle.std.specs.Prelude.{◌≡◌, refl, Bool, true, false, ◌++◌, ℕ, ◌+◌, ◌-◌, ◌<◌, leb}
use Rattle.std.proofs.Common.{sym, ◌∙◌, arith, leb-true, leb-false, le-leb}
use Rattle.std.proofs.lemmas.Bool.{lt-leb}
use Rattle.any_text.specs.Line.{line}
use Rattle.log_read.specs.Log.{Row, row_numbers}
use Rattle.log_records.specs.PairLine.{doubt, against, pair_line}

pub precedes : (a b d : ℕ) → b < a → leb (a - b) d ≡ leb a (b + d)
precedes a b d h = go (leb (a - b) d) refl
  where
    go : (t : Bool) → leb (a - b) d ≡ t → t ≡ leb a (b + d)
    go true e = let k = leb-true (a - b) d e in sym (le-leb a (b + d) (omega arith))
    go false e = let k = leb-false (a - b) d e in sym (lt-leb a (b + d) (omega arith))

module _ (bound : ℕ) (x y : Row) {b : Bool} (e : b ≡ leb x.logged.time (y.logged.time + bound)) where
  pub pair-doubt : b ≡ true → line doubt (row_numbers x ++ row_numbers y) ≡ pair_line bound x y
  pair-doubt t = let z = sym e ∙ t in rw z

  pub pair-against : b ≡ false → line against (row_numbers x ++ row_numbers y) ≡ pair_line bound x y
  pair-against t = let z = sym e ∙ t in rw z
