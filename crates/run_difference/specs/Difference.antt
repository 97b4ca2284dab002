-- The first entry in which two histories differ.
use Rattle.std.specs.Prelude.{Bool, true, false, cond, ◌&&◌, List, [], ◌∷◌, ℕ, zero, suc, ◌+◌, eqb, length, Option, None, Some}
use Rattle.rules.specs.State.{Write}
use Rattle.any_list.specs.Arrays.{table}
use Rattle.step_parts.specs.declared.Write as P
use Rattle.step_parts.specs.Hold.{pack_write}
use Rattle.run_lists.specs.Entries.{entry_at}
use Rattle.run.specs.Ran.{whole_run}
use Rattle.run_difference.specs.declared.Parting.{Parting}

-- ---- histories

-- The accepted writes of a run.
abbrev pub history : List ℕ → List Write
history list = (whole_run list).state.history

abbrev pub same_write : Write → Write → Bool
same_write w v = eqb w.node v.node && eqb w.term v.term

abbrev pub one_more : Bool → ℕ → ℕ
one_more true n = suc n
one_more false n = 0

-- How many entries two histories have in common at their front.
unfoldable pub common : List Write → List Write → ℕ
common [] vs = 0
common (w ∷ ws) [] = 0
common (w ∷ ws) (v ∷ vs) = one_more (same_write w v) (common ws vs)

-- The entry that i others stand before, if there is one.
abbrev pub entry_in : List Write → ℕ → Option P.Write
entry_in [] i = None
entry_in (w ∷ ws) zero = Some (pack_write w)
entry_in (w ∷ ws) (suc i) = entry_in ws i

abbrev pub differs_at : ℕ → List Write → List Write → Parting
differs_at i ws vs = record { at = i + 1; one = entry_in ws i; other = entry_in vs i }

unfoldable pub difference : List Write → List Write → Option Parting
difference ws vs =
    cond (eqb (common ws vs) (length ws) && eqb (common ws vs) (length vs))
    None
    (Some (differs_at (common ws vs) ws vs))

-- ---- histories as bytes

-- The first n entries.
abbrev pub entries : List ℕ → ℕ → List Write
entries part n = table n (entry_at part)
