use Rattle.run_difference.specs.Entries.{entry-inside, entry-beyond}
use Rattle.run_difference.proofs.entry_of.Goals as goal

pub returns-then-i-n : goal.returns-then-i-n
returns-then-i-n c = entry-inside c.args.part.now _ _ c.entry_at.ensures c.if-i-n.true

pub returns : goal.returns
returns c = entry-beyond c.args.part.now _ _ c.if-i-n.false
