use Rattle.std.proofs.Common.{sym, arith, eq-eqb, ne_eqb}
use Rattle.std.proofs.lemmas.List.{get_or_default}
use Rattle.any_list.specs.Tables.{moved_up}
use Rattle.step_parts.specs.Queues.{without_first}
use Rattle.step_parts.proofs.Queue.pop.Goals as goal

pub returns-then-self-eq0 : goal.returns-then-self-eq0
unfolding without_first
returns-then-self-eq0 g c = simp (eq-eqb _ _ c.if-self-eq0.true)

pub returns : goal.returns
unfolding without_first
returns g c =
    let items = c.args.self.items in
    let blank = g.T.Blank.blank in
    simp (
      ne_eqb _ _ c.if-self-eq0.false,
      c.blank.ensures,
      sym (moved_up 7 items blank blank (omega arith)),
      get_or_default items 1 c.index-at-1.result blank (omega arith),
      get_or_default items 2 c.index-at-2.result blank (omega arith),
      get_or_default items 3 c.index-at-3.result blank (omega arith),
      get_or_default items 4 c.index-at-4.result blank (omega arith),
      get_or_default items 5 c.index-at-5.result blank (omega arith),
      get_or_default items 6 c.index-at-6.result blank (omega arith),
      get_or_default items 7 c.index-at-7.result blank (omega arith),
    )
