-- Every array of a state that a function is given has its length: from what the logic knows of any struct value. Assumes nothing.
use mathlib.Core.List.{List, [], ◌∷◌}
use mir.Val.{Val}
use denote.Shadow.{shadow}
use denote.Array.{each}
use denote.Laws.{Is}
use denote.RattleType.{RattleType}
use denote.Struct.Declared.{row}
use Rattle.rules_laws.specs.All.{All}
use Rattle.step_parts.specs.contracts.Mastership as M
use Rattle.step_parts.specs.declared.Mastership.{Mastership}
use Rattle.step_state.specs.contracts.Controller as N
use Rattle.step_state.specs.contracts.Stream as L
use Rattle.step_state.specs.contracts.State as Whole
use Rattle.step_state.specs.declared.Controller.{Controller}
use Rattle.step_state.specs.declared.Stream.{Stream}
use Rattle.step_state.specs.declared.State.{State}
use Rattle.step_bridge.specs.Sized.{SizedMastership, SizedController, SizedStream, Sized}

-- What each element of an array is known to be.
each-known : (R : RattleType) (P : R.Denot → Type 0) → ((x : R.Denot) (vs : List Val) → shadow (R.own_val x vs) → P x)
    → (l : List R.Denot) (us : List Val) → shadow (each R.Denot R.own_val l us) → All P l
each-known R P f [] us h = tt
each-known R P f (x ∷ l) [] h = absurd h
each-known R P f (x ∷ l) (u ∷ us) h = (f x (u ∷ []) h.0, each-known R P f l us h.1)

mastership-sized : (m : Mastership) (vs : List Val) → Is (row M.the_type) m vs → SizedMastership m
mastership-sized m vs h = h.1.1.1.1.0.1.0.1

controller-sized : (r : Controller) (vs : List Val) → Is (row N.the_type) r vs → SizedController r
controller-sized r vs h = let items = h.1.1.0.1.1.0 in record {
  events = items.1.0.1;
  items = each-known M.the_row SizedMastership mastership-sized r.events.items items.0 items.1.1;
  learned = mastership-sized r.learned h.0.1.0 h.1.1.1.0;
}

stream-sized : (r : Stream) (vs : List Val) → Is (row L.the_type) r vs → SizedStream r
stream-sized r vs h = record {
  requests = h.1.1.1.1.0.1.1.0.1.0.1;
  responses = h.1.1.1.1.1.0.1.1.0.1.0.1;
}

-- For a function f(s: State), whose record of what is known is `c`: `sized c.args.s _ c.good.0`.
pub sized : (s : State) (vs : List Val) → Is (row Whole.the_type) s vs → Sized s
sized s vs h =
    let core = h.1.1.1.1.0.1.1 in
    let controllers = core.1.0 in
    let streams = core.1.1.0 in
    let claims = core.1.1.1.0.1.1 in
    let history = h.1.1.1.1.1.0.1.1 in record {
      service = mastership-sized s.core.service _ core.0;
      controllers = controllers.1.0.1;
      controller-rows = each-known N.the_row SizedController controller-sized s.core.controllers controllers.0 controllers.1.1;
      streams = streams.1.0.1;
      stream-rows = each-known L.the_row SizedStream stream-sized s.core.streams streams.0 streams.1.1;
      ids = claims.0.1.0.1;
      terms = claims.1.0.1.0.1;
      history = history.0.1.0.1;
    }
