use Rattle.std.proofs.Common.{arith}
use Rattle.any_text.specs.Spacing.{line-room, line-end}
use Rattle.any_text.proofs.put_line.Goals as goal

pub put_fitting_line-requires : goal.put_fitting_line-requires
put_fitting_line-requires c = line-room _ _ (λ i. let k = c.type_inv.numbers i in omega arith) c.requires

pub returns : goal.returns
returns c = (c.put_fitting_line.ensures, line-end c.args.word.now c.args.numbers.now (λ i. let k = c.type_inv.numbers i in omega arith) c.put_fitting_line.ensures)
