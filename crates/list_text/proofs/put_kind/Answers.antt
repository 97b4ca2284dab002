use Rattle.std.proofs.Common.{sym, ◌∙◌, arith, eqb-true, ap}
use Rattle.std.proofs.lemmas.Bool.{eqb-false}
use Rattle.any_text.specs.Decimal.{decimal}
use Rattle.any_text.specs.Digits.{width}
use Rattle.list_text.specs.Showing.{no_name, with-name}
use Rattle.list_text.proofs.put_kind.Goals as goal

pub put_wide-requires : goal.put_wide-requires
put_wide-requires c = rw c.from.ensures (record { enough = let w = width c.args.kind 2 (omega arith) in omega arith })

pub returns-then-is_empty : goal.returns-then-is_empty
returns-then-is_empty c =
    let k = c.args.kind in
    let none = eqb-true _ 0 (sym c.is_empty.ensures ∙ c.if-is_empty.true) in
    let e = ap decimal c.from.ensures ∙ no_name k c.name_of-name.ensures.name none in
    let w = width k 2 (omega arith) in
    let p = rw c.from.ensures at c.put_wide.ensures in
    let z = p.place in
    (rw e at c.put_wide.ensures, omega arith)

pub put_word-requires : goal.put_word-requires
put_word-requires c = record { enough = let s = c.name_of-name.ensures.short in omega arith }

pub returns : goal.returns
returns c =
    let some = eqb-false _ 0 (sym c.is_empty.ensures ∙ c.if-is_empty.false) in
    let s = c.name_of-name.ensures.short in
    let z = c.put_word.ensures.place in
    (rw (with-name c.args.kind c.name_of-name.ensures.name (omega arith)) at c.put_word.ensures, omega arith)
