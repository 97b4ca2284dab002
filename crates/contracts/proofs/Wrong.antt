-- The wrong runners that the scope names are shut out by the contract of `run`. Assumes nothing.
use Rattle.std.proofs.Math.Path.{◌≡◌, refl, sym, ap}
use Rattle.std.proofs.Common.{◌∙◌}
use Rattle.std.specs.Prelude.{ℕ}
use mathlib.Core.List.{List}
use native.Mathlib.Omega.{arith}
use Rattle.std.proofs.Math.ListN.{get_or}
use Rattle.run.specs.Ran.{ran}
use Rattle.contracts.specs.Opened.{runs}
use Rattle.contracts.specs.Wrong.{Runner, Runs, ZeroForTheRest, MakesUpWrites, twice, lent}
use Rattle.contracts.proofs.Only.{only-run}

module _ (f : Runner) (meets : Runs f) where
  -- The second one is refused with 4.
  second : get_or (f twice lent).out 1 0 ≡ 4
  unfolding runs
  second = ap (λ (l : List ℕ). get_or l 1 0) (only-run (twice, lent) (f twice lent).returned (f twice lent).out (meets twice lent)).1

  pub not-zero-for-the-rest : ¬ ZeroForTheRest f
  unfolding runs
  not-zero-for-the-rest wrong =
      let same : ◌≡◌ {A = ℕ} 4 0 = sym second ∙ wrong twice lent refl 1 (omega arith) (omega arith) in
      omega arith

  pub not-makes-up-writes : ¬ MakesUpWrites f
  unfolding ran
  not-makes-up-writes (list, out, runs, wrong) = wrong ((only-run (list, out) (f list out).returned (f list out).out (meets list out)).0 ∙ rw runs refl)
