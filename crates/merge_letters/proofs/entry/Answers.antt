use Rattle.std.proofs.Common.{◌≡◌, refl, ap, ◌∙◌, Bool, true, false}
use Rattle.std.specs.Int.{from_bool}
use Rattle.merge_letters.specs.Letters.{bit, may_pass}
use Rattle.merge_letters.proofs.entry.Goals as goal

as-bit : (b : Bool) → from_bool b ≡ bit b
as-bit true = refl
as-bit false = refl

pub returns : goal.returns
unfolding may_pass
returns c = c.from.ensures ∙ as-bit _ ∙ ap bit c.independent-free.ensures
