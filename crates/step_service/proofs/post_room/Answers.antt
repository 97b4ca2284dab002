use Rattle.std.proofs.Common.{◌≡◌, ℕ, suc, ◌<◌, Bool, not, ◌&&◌, leb, List, [], ◌∷◌, map, take, length, get_or, refl, sym, ap₂, ◌∙◌, arith, rules, length-take-le, get_or-take}
use Rattle.std.specs.List.{list_all}
use borrow.Author.Tests.{tests}
use Rattle.std.proofs.lemmas.Iterator.{YieldsList-from_slice}
use Rattle.std.proofs.lemmas.Iterator.Search.{all_from_yields_List}
use Rattle.rules.specs.Limits.{queue_length}
use Rattle.rules.specs.Queues.{room_all}
use Rattle.step_state.specs.Hold.{events_at}
use Rattle.step_state.specs.Order.{OrderedController, past_controller}
use Rattle.step_state.specs.declared.Controller.{Controller}
use Rattle.step_service.specs.Posting.{controller-rows, room_of}
use Rattle.step_service.proofs.post_room.Goals as goal

-- the test of a row
abbrev has_room : Controller → Bool
has_room r = not (leb queue_length r.events.len)

rooms : (l : List Controller) → ((i : ℕ) → i < length l → OrderedController (get_or l i past_controller)) → list_all has_room l ≡ room_all (map events_at l)
unfolding room_all
rooms [] h = refl
rooms (r ∷ l) h = ap₂ ◌&&◌ (sym (room_of r.events (h 0 (omega arith)).events)) (rooms l (λ i k. h (suc i) (omega arith)))

pub returns : goal.returns
returns c =
    let a = c.args in
    let k = controller-rows a.count a.controllers.now c.requires in
    let n = length-take-le a.count a.controllers.now (let few = c.requires.few in omega arith) in
    all_from_yields_List has_room _ _ c.all.result c.all.ensures.ran (YieldsList-from_slice _ c.iter.ensures.rest) (λ x b q k. search (rules, tests))
    ∙ rooms (take a.count a.controllers.now) (λ i k. rw (get_or-take a.count a.controllers.now i past_controller (omega arith)) (c.requires.rows i (omega arith)))
