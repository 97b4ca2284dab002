-- A function of a choice is a choice of what it makes of each. Assumes nothing.
use Rattle.std.specs.Prelude.{◌≡◌, Bool, true, false, cond}

pub either_same : {A B : Type 0} (g : A → B) (b : Bool) {x y : A} {x' y' : B} → g x ≡ x' → g y ≡ y' → g (cond b x y) ≡ cond b x' y'
either_same g true p q = p
either_same g false p q = q
