use mathlib.Core.Path.{refl}
use lib.Bits.{and_mask}
use borrow.Author.Tests.{lt-leb, le-leb}
use Rattle.wire_fields.specs.Fields.{tagged}
use Rattle.wire_fields.proofs.read_tagged.Goals as goal

pub returns-then-number-lt1 : goal.returns-then-number-lt1
unfolding tagged
returns-then-number-lt1 c = simp (lt-leb _ _ c.if-number-lt1.true) refl

pub returns-then-number-gt-LAST_NUMBER : goal.returns-then-number-gt-LAST_NUMBER
unfolding tagged
returns-then-number-gt-LAST_NUMBER c = simp (le-leb _ _ c.if-number-lt1.false, lt-leb _ _ c.if-number-gt-LAST_NUMBER.true) refl

pub returns : goal.returns
unfolding tagged
returns c = simp (le-leb _ _ c.if-number-lt1.false, le-leb _ _ c.if-number-gt-LAST_NUMBER.false) (rw (and_mask _ 3) at c.read_content.ensures)
