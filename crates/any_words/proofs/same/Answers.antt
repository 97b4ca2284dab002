use Rattle.std.proofs.Common.{◌∙◌}
use Rattle.any_words.specs.Same.{bytes-same}
use Rattle.any_words.proofs.same.Goals as goal

pub returns : goal.returns
returns c = c.eq.ensures ∙ bytes-same c.args.word.now c.args.other.now
