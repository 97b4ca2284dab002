-- A history does not differ from itself. Assumes nothing.
use Rattle.std.specs.Prelude.{◌≡◌, refl, ◌≢◌, List, [], ◌∷◌, Option, None, Some, length}
use Rattle.std.proofs.Common.{sym, ap, ◌∙◌, eq-eqb}
use Rattle.rules.specs.State.{Write}
use Rattle.run_difference.specs.declared.Parting.{Parting}
use Rattle.run_difference.specs.Difference.{common, difference}

all-common : (ws : List Write) → common ws ws ≡ length ws
unfolding common
all-common [] = refl
all-common (w ∷ ws) = rw (eq-eqb w.node w.node refl, eq-eqb w.term w.term refl, all-common ws)

alike : (ws : List Write) → difference ws ws ≡ None
unfolding difference
alike ws = rw (all-common ws, eq-eqb (length ws) (length ws) refl)

-- Where it is said how they differ, they do.
pub not_alike : (ws vs : List Write) {d : Parting} → difference ws vs ≡ Some d → ws ≢ vs
not_alike ws vs {d} e s =
    let z : ◌≡◌ {A = Option Parting} None (Some d) = sym (alike ws) ∙ ap (difference ws) s ∙ e in
    cc
