use mathlib.Core.Path.{refl}
use borrow.Author.Tests.{ne_eqb}
use Rattle.wire_fields.specs.Fields.{content}
use Rattle.wire_fields.proofs.read_content.Goals as goal

pub returns-in-0 : goal.returns-in-0
unfolding content
returns-in-0 c = simp c.in-0.is c.read_varint.ensures

pub returns-in-1 : goal.returns-in-1
unfolding content
returns-in-1 c = simp c.in-1.is c.skip_fixed.ensures

pub returns-in-2 : goal.returns-in-2
unfolding content
returns-in-2 c = simp c.in-2.is c.read_bytes.ensures

pub returns-in-5 : goal.returns-in-5
unfolding content
returns-in-5 c = simp c.in-5.is c.skip_fixed-in-5.ensures

pub returns-in_default : goal.returns-in_default
unfolding content
returns-in_default c =
    let none = c.in_default.in_default-own.rest in
    simp (ne_eqb _ _ none.0.0.0.1, ne_eqb _ _ none.0.0.1, ne_eqb _ _ none.0.1, ne_eqb _ _ none.1) refl
