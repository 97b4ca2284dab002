use Rattle.wire_text.proofs.put_flag.Goals as goal

pub put_word-requires : goal.put_word-requires
put_word-requires c = simp c.if-present.true at c.requires

pub returns-then-present : goal.returns-then-present
returns-then-present c = simp c.if-present.true c.put_word.ensures

pub put_word-requires-2 : goal.put_word-requires-2
put_word-requires-2 c = simp c.if-present.false at c.requires

pub returns : goal.returns
returns c = simp c.if-present.false c.put_word-2.ensures
