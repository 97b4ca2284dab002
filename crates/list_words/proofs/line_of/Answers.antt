use Rattle.std.proofs.Common.{ap, ◌∙◌}
use Rattle.std.specs.Prelude.{List, ℕ}
use Rattle.any_words.specs.Text.{words}
use Rattle.list_words.specs.Line.{of_words, line_of}
use Rattle.list_words.specs.Saying.{uncommented-is}
use Rattle.list_words.proofs.line_of.Goals as goal

pub returns : goal.returns
unfolding line_of
returns c = c.of_words.ensures ∙ ap (λ (l : List ℕ). of_words (words l)) (uncommented-is _ c.next_byte-end.ensures)
