-- A queue with nothing in it, appending to a queue and taking off its head, place by place. Assumes nothing.
use Rattle.std.specs.Prelude.{[]}
use Rattle.any_list.specs.Queue.{pushed, popped}
use Rattle.step_parts.specs.Hold.{places, of_places, pack_queue}
use Rattle.step_parts.specs.declared.Queue.{Queue}

module _ {T : Type 0} where
  -- a blank at each place
  abbrev pub empty_queue : T → Queue T
  empty_queue blank = pack_queue blank (λ (x : T). x) []

  -- x goes last; a full queue stays as it is
  unfoldable pub with_last : Queue T → T → Queue T
  unfolding pushed
  with_last q x = of_places (pushed (places q) x)

  -- the head is taken off, and a blank stands at the last place; an empty queue stays as it is
  unfoldable pub without_first : T → Queue T → Queue T
  unfolding popped
  without_first blank q = of_places (popped blank (places q))
