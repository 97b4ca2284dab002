use Rattle.any_text.specs.Spacing.{refused-parts}
use Rattle.any_text.proofs.put_refused_line.Goals as goal

pub put_fitting_line-requires : goal.put_fitting_line-requires
put_fitting_line-requires c = rw (refused-parts c.args.n) at c.requires

pub returns : goal.returns
returns c = rw (refused-parts c.args.n) c.put_fitting_line.ensures
