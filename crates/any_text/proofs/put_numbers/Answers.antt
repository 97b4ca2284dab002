use Rattle.std.proofs.Common.{[], ◌∷◌, take_all}
use Rattle.any_text.specs.Lines.{newline}
use Rattle.any_text.specs.Puts.{put_then, room-first}
use Rattle.any_text.specs.Spacing.{spaced-none, spaced-more, room-blank, room-number}
use Rattle.any_text.proofs.put_numbers.Goals as goal

pub loop-n-init : goal.loop-n-init
loop-n-init c = spaced-none c.args.numbers.now _ _

pub put_byte-after-requires : goal.put_byte-after-requires
put_byte-after-requires c = let l = c.loop-n in room-blank _ l.n-index c.loop-n-test.true (room-first (newline ∷ []) c.requires) l.invariant

pub put_wide-next-requires : goal.put_wide-next-requires
put_wide-next-requires c = let l = c.loop-n in room-number _ l.n-index c.loop-n-test.true (room-first (newline ∷ []) c.requires) l.invariant c.put_byte-after.ensures

pub loop-n-preserved : goal.loop-n-preserved
loop-n-preserved c = let l = c.loop-n in spaced-more _ l.n-index c.loop-n-test.true l.invariant c.put_byte-after.ensures c.put_wide-next.ensures

pub returns : goal.returns
returns c = put_then (rw (take_all c.loop-n.n-index c.args.numbers.now c.loop-n-test.false) at c.loop-n.invariant) c.put_byte.ensures
