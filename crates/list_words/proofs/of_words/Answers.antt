use mathlib.Core.Path.{◌∙◌}
use Rattle.list_words.specs.Saying.{words-none, words-one, words-many, words-two}
use Rattle.list_words.proofs.of_words.Goals as goal

pub returns-then-line-first : goal.returns-then-line-first
returns-then-line-first c = words-none _ c.next_where-first.ensures c.if-line-first.true

pub returns-then-line-second : goal.returns-then-line-second
returns-then-line-second c = words-one _ c.next_where-first.ensures c.if-line-first.false c.next_where-end.ensures c.next_where-second.ensures c.if-line-second.true

pub returns-then-next_where-line : goal.returns-then-next_where-line
returns-then-next_where-line c =
    words-many _ c.next_where-first.ensures c.if-line-first.false c.next_where-end.ensures c.next_where-second.ensures c.if-line-second.false c.next_where-last.ensures c.next_where.ensures c.if-next_where-line.true

pub returns : goal.returns
returns c =
    c.said.ensures
    ∙ words-two _ c.next_where-first.ensures c.if-line-first.false c.next_where-end.ensures c.next_where-second.ensures c.if-line-second.false c.next_where-last.ensures c.next_where.ensures c.if-next_where-line.false
