use mathlib.Core.Path.{ap}
use Prim.Native.Nat.{◌-◌}
use lib.ListN.{set}
use Rattle.rules.specs.Election.{elected, holding}
use Rattle.step_state.specs.Hold.{hold_held, pack_elected}
use Rattle.step_state.specs.declared.Elected.{Elected}
use Rattle.step_state.specs.declared.Claims.{Claims}
use Rattle.step_switch.proofs.with_claim.Goals as goal

pub elected_with-next-requires : goal.elected_with-next-requires
unfolding hold_held
elected_with-next-requires c = (c.requires.within, ap pack_elected c.requires.kept)

pub returns : goal.returns
unfolding holding elected hold_held
returns c =
    let a = c.args in
    ap {B = Claims} (λ (e : Elected). record { ids = set a.claims.ids (a.node - 1) a.id; terms = set a.claims.terms (a.node - 1) a.term; elected = e; last = a.claims.last }) c.elected_with-next.ensures
