use Rattle.std.specs.Prelude.{not}
use Rattle.std.proofs.Common.{◌∙◌, ap, eq-eqb}
use Rattle.log_doubts.specs.Index.{not-dependent, of-one-log, by-clocks}
use Rattle.log_doubts.proofs.search.Search.in_doubt.Goals as goal

pub returns-then-self-first-eq1 : goal.returns-then-self-first-eq1
returns-then-self-first-eq1 c =
    let s = c.args.self.now in
    not-dependent s.index s.merge.bound c.requires.0 c.requires.1 c.if-self-first-eq1.true

pub returns-then-first-second : goal.returns-then-first-second
returns-then-first-second c =
    let s = c.args.self.now in
    by-clocks s.index s.merge.bound c.requires.0 c.requires.1 c.if-self-first-eq1.false c.if-first-second.true c.may_precede.ensures

pub returns-else-first-second : goal.returns-else-first-second
returns-else-first-second c =
    let s = c.args.self.now in
    ap not (eq-eqb _ _ c.if-first-second.false) ∙ of-one-log s.index s.merge.bound c.requires.0 c.requires.1 c.if-first-second.false
