use Rattle.std.proofs.Common.{◌≡◌, refl, ◌*◌, ℕ, ◌+◌, ◌<◌, Bool, true, false, cond, List, length, take, get_or, sym, ap, ◌∙◌, arith, length-take, length-take-le, get_or-take}
use Rattle.rules.specs.Open.{word_of}
use Rattle.any_list.specs.Arrays.{column}
use Rattle.any_list.specs.Columns.{length-column, column-at}
use Rattle.any_word.specs.Flags.{word_none, word_small}
use Rattle.step_state.specs.Hold.{open_at}
use Rattle.step_state.specs.Order.{past_stream}
use Rattle.step_streams.proofs.Bits.{bit_next, bit_small, word-more}
use Rattle.step_streams.proofs.open_word.Goals as goal
use Rattle.step_streams.proofs.open_word.Goals.{At-loop-stream, then-stream, else-stream}

-- the flags of the rows in use
abbrev flags : (c : At-loop-stream) → List Bool
flags c = column open_at c.args.count c.args.streams

few : (c : At-loop-stream) → (length c.args.streams ≡ 8) × (length (flags c) ≡ c.args.count) × (length (take c.args.count c.args.streams) ≡ c.args.count)
few c =
    let k : length c.args.streams ≡ 8 = (omega arith) in
    (k, length-column open_at c.args.count c.args.streams (omega arith), length-take-le c.args.count c.args.streams (omega arith))

-- the word so far is a byte
small : (c : At-loop-stream) → c.loop-stream.word < 256
small c =
    let n = few c in
    let e = c.loop-stream.invariant.1 in
    let h = word_small (take c.loop-stream.stream-index (flags c)) (omega (arith, length-take c.loop-stream.stream-index (flags c))) in
    omega arith

-- with the flag of the row at the index
one_more : (c : At-loop-stream) → c.loop-stream.stream-index < c.args.count → (b : Bool) → (get_or (take c.args.count c.args.streams) c.loop-stream.stream-index past_stream).opened ≡ b
    → c.loop-stream.word + cond b c.loop-stream.bit 0 ≡ word_of (take (c.loop-stream.stream-index + 1) (flags c))
one_more c h b e =
    let n = few c in
    let i = c.loop-stream.stream-index in
    let flag : get_or (flags c) i false ≡ b =
    column-at open_at c.args.count i c.args.streams past_stream h ∙ ap open_at (sym (get_or-take c.args.count c.args.streams i past_stream h)) ∙ e in
    let more = word-more (flags c) i (omega arith) in
    let bit = c.loop-stream.invariant.0 in
    let word = c.loop-stream.invariant.1 in
    sym (rw flag at (rw (← bit, ← word) at more))

pub loop-stream-init : goal.loop-stream-init
loop-stream-init c = (refl, sym word_none)

pub overflow_add-word : goal.overflow_add-word
overflow_add-word c =
    let at = (goal.at.overflow_add-word c).At-loop-stream in
    let n = few at in
    let w = small at in
    let b = bit_small c.loop-stream.stream-index (omega arith) in
    omega arith

pub overflow_mul-bit : goal.overflow_mul-bit
overflow_mul-bit c =
    let n = few (goal.at.overflow_mul-bit c).At-loop-stream in
    let b = bit_small c.loop-stream.stream-index (omega arith) in
    omega arith

pub loop-stream-preserved : goal.loop-stream-preserved
loop-stream-preserved c =
    let at = (goal.at.loop-stream-preserved c).At-loop-stream in
    let n = few at in
    let in_use : c.loop-stream.stream-index < c.args.count = omega arith in (
      ap (λ (b : ℕ). b * 2) c.loop-stream.invariant.0 ∙ bit_next c.loop-stream.stream-index,
      elim c.if-stream.branch [
        | then-stream w ↦ w.word-is ∙ one_more at in_use true w.if-stream.true
        | else-stream w ↦ (let e = one_more at in_use false w.if-stream.false in let k : c.loop-stream.word ≡ c.loop-stream.word + 0 = omega arith in w.word-is ∙ k ∙ e)
      ],
    )
