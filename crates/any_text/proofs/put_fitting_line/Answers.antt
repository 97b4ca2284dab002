use Rattle.std.proofs.Common.{[], ◌∷◌, ◌++◌}
use Rattle.any_text.specs.Lines.{newline}
use Rattle.any_text.specs.Puts.{put_then, room-first, room-then}
use Rattle.any_text.specs.Line.{spaced}
use Rattle.any_text.specs.Spacing.{line-parts}
use Rattle.any_text.proofs.put_fitting_line.Goals as goal

pub put_word-next-requires : goal.put_word-next-requires
put_word-next-requires c = room-first (spaced c.args.numbers.now ++ (newline ∷ [])) (rw (line-parts c.args.word.now c.args.numbers.now) at c.requires)

pub put_numbers-requires : goal.put_numbers-requires
put_numbers-requires c = room-then c.put_word-next.ensures (rw (line-parts c.args.word.now c.args.numbers.now) at c.requires)

pub returns : goal.returns
returns c = rw (line-parts c.args.word.now c.args.numbers.now) (put_then c.put_word-next.ensures c.put_numbers.ensures)
