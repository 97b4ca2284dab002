use mathlib.Core.Path.{◌≡◌}
use mathlib.Core.Bool.{Bool}
use mathlib.Core.List.{List}
use Prim.Native.Nat.{ℕ}
use lib.ListN.{get_or}
use Rattle.rules.specs.Limits.{most_nodes}
use Rattle.rules.specs.Open.{word_of}
use Rattle.any_list.specs.Arrays.{column}
use Rattle.any_word.specs.Walk.{Walk}
use Rattle.step_state.specs.Hold.{open_at}
use Rattle.step_state.specs.Order.{past_stream}
use Rattle.step_state.specs.declared.Elected.{Elected}
use Rattle.step_state.specs.declared.Stream.{Stream}
use Rattle.step_streams.specs.Does.{news_of, tell_row}
use Rattle.step_streams.proofs.tell_all.Given as goal

-- a row as it was
abbrev pub row : List Stream → ℕ → Stream
row l i = get_or l i past_stream

-- the flags are still to be walked, and every other open stream is told
pub record Telling (count : ℕ) (elected : Elected) (rows₀ : List Stream) (left : ℕ) (rows : List Stream) : Type 0 where
  pub flags : List Bool
  pub word : left ≡ word_of flags
  pub walk : Walk most_nodes (row rows₀) (tell_row (column open_at count rows₀) (news_of elected) rows₀) past_stream (column open_at count rows₀) flags rows

abbrev pub invariant-loop-left : goal.invariant-loop-left
invariant-loop-left l = Telling l.count l.elected l.initial.streams l.left l.streams

abbrev pub decreases-loop-left : goal.decreases-loop-left
decreases-loop-left l = l.left
