-- The text about two runs. Assumes nothing.
use Rattle.std.specs.Prelude.{◌≡◌, List, [], ◌∷◌, ℕ, drop, Option}
use Rattle.std.proofs.Common.{ap, ap₂, ◌∙◌}
use Rattle.any_text.specs.Put.{Put}
use Rattle.any_text.specs.Puts.{put_then}
use Rattle.run_difference.specs.declared.Parting.{Parting}
use Rattle.run_difference.specs.Difference.{difference, entries, history}
use Rattle.any_text.specs.Line.{line}
use Rattle.merge_text.specs.Words as W
use Rattle.run_difference.specs.Runs.{Written}
use Rattle.merge_text.specs.Report.{parting_line, runs_text}
use Rattle.merge_text.specs.Says.{put_as}

-- Two runs: how many writes, and then where they first differ.
pub put_both : {first second mine theirs part part' : List ℕ} {a b n m : ℕ} → Written first a mine n → Written second b theirs m → part ≡ drop a mine → part' ≡ drop b theirs
    → {d : Option Parting} → d ≡ difference (entries part n) (entries part' m)
    → {l k j : List ℕ} {at i r : ℕ} → Put l at (line W.writes (n ∷ m ∷ [])) k i → Put k i (parting_line d) j r → Put l at (runs_text first second) j r
unfolding runs_text
put_both {first} {second} {n = n} {m = m} w v e f {d} g p q =
    let same : d ≡ difference (history first) (history second) = g ∙ ap₂ difference (ap (λ (l : List ℕ). entries l n) e ∙ w.says) (ap (λ (l : List ℕ). entries l m) f ∙ v.says) in
    put_then (put_as (ap₂ (λ (x y : ℕ). line W.writes (x ∷ y ∷ [])) w.writes v.writes) p) (put_as (ap parting_line same) q)
