use mathlib.Core.Path.{◌≡◌, refl, sym, ap, ap₂, ◌∙◌}
use mathlib.Core.Bool.{Bool, false, cond}
use Prim.Native.Nat.{◌+◌, ◌-◌, ◌≤◌, ◌<◌}
use native.Mathlib.Omega.{arith}
use lib.Bits.{bit_and, and_le_r}
use lib.Count.{count_trailing_zeros}
use lib.ListN.{length, set}
use Rattle.rules.specs.Limits.{most_nodes}
use Rattle.any_list.specs.Arrays.{column}
use Rattle.any_list.specs.Columns.{length-column}
use Rattle.any_word.specs.Flags.{Lowest, lowest}
use Rattle.any_word.specs.Walk.{walk_start, walk_step, walk_at, walk_end}
use Rattle.step_parts.specs.Hold.{pack_response}
use Rattle.step_state.specs.Hold.{open_at}
use Rattle.step_state.specs.Order.{past_stream}
use Rattle.step_streams.specs.Does.{news_of, responded, tell_row}
use Rattle.step_streams.proofs.tell_all.Invariants.{row}
use Rattle.step_streams.proofs.tell_all.Goals as goal
use Rattle.step_streams.proofs.tell_all.Goals.{In-loop-left, Start}

-- there are eight rows
places : (c : Start) → length c.args.streams.now ≡ 8
places c = (omega arith)

-- the lowest flag that is left
low : (c : In-loop-left) → Lowest c.loop-left.invariant.flags (count_trailing_zeros 32 c.loop-left.left) (bit_and c.loop-left.left (c.loop-left.left - 1))
low c =
    let so_far = c.loop-left.invariant in
    let few : c.args.count ≤ 8 = c.requires in
    let k = places c.before.before.before.before in
    let n = length-column open_at c.args.count c.args.streams.now (omega arith) in
    let s = so_far.walk.among in
    let e = so_far.word in
    let p = c.loop-left-test.true in
    rw e (lowest 32 so_far.flags (omega arith) (omega arith))

-- and its place is that of a node
place : (c : In-loop-left) → count_trailing_zeros 32 c.loop-left.left < c.args.count
place c =
    let few : c.args.count ≤ 8 = c.requires in
    let k = places c.before.before.before.before in
    let n = length-column open_at c.args.count c.args.streams.now (omega arith) in
    omega (arith, (low c).inside, c.loop-left.invariant.walk.among)

pub loop-left-init : goal.loop-left-init
loop-left-init c =
    let flags = column open_at c.args.count c.args.streams.now in
    record {
      flags = flags;
      word = c.open_word-left.ensures;
      walk = walk_start most_nodes (row c.args.streams.now) (tell_row flags (news_of c.args.elected) c.args.streams.now) past_stream flags c.args.streams.now (places (goal.at.loop-left-init c).Start) (λ i lt. refl) (λ i e. sym (simp e));
    }

pub overflow_cast-i : goal.overflow_cast-i
overflow_cast-i c = omega (arith, place (goal.at.overflow_cast-i c).In-loop-left)

pub offset_bounds-streams-i : goal.offset_bounds-streams-i
offset_bounds-streams-i c = omega (arith, place (goal.at.offset_bounds-streams-i c).In-loop-left)

pub bounds-streams-i : goal.bounds-streams-i
bounds-streams-i c = omega (arith, place (goal.at.bounds-streams-i c).In-loop-left)

pub overflow_add-i : goal.overflow_add-i
overflow_add-i c = omega (arith, place (goal.at.overflow_add-i c).In-loop-left)

pub overflow_cast-i-in-loop-left : goal.overflow_cast-i-in-loop-left
overflow_cast-i-in-loop-left c = omega (arith, place (goal.at.overflow_cast-i-in-loop-left c).In-loop-left)

pub offset_bounds-streams-i-in-loop-left : goal.offset_bounds-streams-i-in-loop-left
offset_bounds-streams-i-in-loop-left c = omega (arith, place (goal.at.offset_bounds-streams-i-in-loop-left c).In-loop-left)

pub bounds-streams-i-in-loop-left : goal.bounds-streams-i-in-loop-left
bounds-streams-i-in-loop-left c = omega (arith, place (goal.at.bounds-streams-i-in-loop-left c).In-loop-left)

pub loop-left-smaller : goal.loop-left-smaller
loop-left-smaller c =
    omega (arith, and_le_r c.loop-left.left (c.loop-left.left - 1), c.loop-left-test.true)

pub loop-left-preserved : goal.loop-left-preserved
loop-left-preserved c =
    let so_far = c.loop-left.invariant in
    let l = low (goal.at.loop-left-preserved c).In-loop-left in
    let i = count_trailing_zeros 32 c.loop-left.left in
    let flags = column open_at c.args.count c.args.streams.now in
    let old = row c.args.streams.now in
    let new = tell_row flags (news_of c.args.elected) c.args.streams.now in
    let few : c.args.count ≤ 8 = c.requires in
    let lt : i < most_nodes = omega (arith, place (goal.at.loop-left-preserved c).In-loop-left) in
    let was = walk_at most_nodes old new past_stream flags so_far.flags c.loop-left.streams i so_far.walk lt l.is_set in
    let is : c.respond.result ≡ new i =
    c.respond.ensures ∙ ap₂ responded c.news_for.ensures was
    ∙ sym (ap (λ (b : Bool). cond b (responded (pack_response (news_of c.args.elected (i + 1))) (old i)) (old i)) (so_far.walk.sub i l.is_set)) in
    record {
      flags = set so_far.flags i false;
      word = l.cleared;
      walk = walk_step most_nodes old new past_stream flags so_far.flags c.loop-left.streams i c.respond.result so_far.walk l.inside lt is;
    }

pub returns : goal.returns
returns c =
    let so_far = c.loop-left.invariant in
    let flags = column open_at c.args.count c.args.streams.now in
    walk_end most_nodes (row c.args.streams.now) (tell_row flags (news_of c.args.elected) c.args.streams.now) past_stream flags so_far.flags c.loop-left.streams so_far.walk (sym so_far.word ∙ c.loop-left-test.false)
