use Rattle.any_text.specs.Line.{row}
use Rattle.any_text.specs.Puts.{puts}
use Rattle.any_text.proofs.put_row.Goals as goal

pub put_wide-next-requires : goal.put_wide-next-requires
unfolding row
put_wide-next-requires c = search puts

pub put_numbers-requires : goal.put_numbers-requires
unfolding row
put_numbers-requires c = search puts

pub returns : goal.returns
unfolding row
returns c = search puts
