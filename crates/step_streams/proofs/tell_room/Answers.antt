use Rattle.std.proofs.Common.{◌≡◌, ℕ, suc, ◌<◌, Bool, not, ◌||◌, ◌&&◌, leb, List, [], ◌∷◌, map, take, length, get_or, refl, sym, ap, ap₂, ◌∙◌, arith, rules, length-take-le, get_or-take}
use Rattle.std.specs.List.{list_all}
use borrow.Author.Tests.{tests}
use Rattle.std.proofs.lemmas.Iterator.{YieldsList-from_slice}
use Rattle.std.proofs.lemmas.Iterator.Search.{all_from_yields_List}
use Rattle.rules.specs.Limits.{queue_length}
use Rattle.rules.specs.Election.{room_open}
use Rattle.any_list.specs.Queue.{room-held}
use Rattle.step_parts.specs.Hold.{hold_response, pack_response, no_response, places}
use Rattle.step_state.specs.Hold.{open_at, responses_at}
use Rattle.step_state.specs.Order.{OrderedStream, past_stream}
use Rattle.step_state.specs.declared.Stream.{Stream}
use Rattle.step_streams.proofs.tell_room.Goals as goal

-- the test of a row
abbrev has_room : Stream → Bool
has_room s = not s.opened || not (leb queue_length s.responses.len)

rooms : (l : List Stream) → ((i : ℕ) → i < length l → OrderedStream (get_or l i past_stream)) → list_all has_room l ≡ room_open (map open_at l) (map responses_at l)
unfolding room_open
rooms [] h = refl
rooms (s ∷ l) h =
    ap₂ ◌&&◌
    (ap (λ (b : Bool). not s.opened || b) (sym (room-held no_response pack_response hold_response (places s.responses) (h 0 (omega arith)).responses)))
    (rooms l (λ i k. h (suc i) (omega arith)))

pub returns : goal.returns
returns c =
    let a = c.args in
    let n = length-take-le a.count a.streams.now (let few = c.requires.few in omega arith) in
    all_from_yields_List has_room _ _ c.all.result c.all.ensures.ran (YieldsList-from_slice _ c.iter.ensures.rest) (λ x b q k. search (rules, tests))
    ∙ rooms (take a.count a.streams.now) (λ i k. rw (get_or-take a.count a.streams.now i past_stream (omega arith)) (c.requires.rows i (omega arith)))
