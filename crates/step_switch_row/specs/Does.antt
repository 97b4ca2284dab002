-- Which writes are accepted, by what the switch holds. Assumes nothing.
use Rattle.std.specs.Prelude.{Bool, ◌&&◌, ℕ, ◌-◌, leb, eqb, get_or}
use Rattle.step_state.specs.declared.Claims.{Claims}

-- A write with this id from node n is accepted.
unfoldable pub judged : ℕ → ℕ → Claims → Bool
judged n id c =
    eqb (get_or c.ids (n - 1) (record { 0 = 0 })).0 id
    && eqb c.elected.master n && leb c.last.0 (get_or c.terms (n - 1) (record { 0 = 0 })).0
