-- Running a list of steps: all answers in order, and the last state. A refused step does not stop the run.
use Rattle.std.specs.Prelude.{List, [], ◌∷◌}
use Rattle.rules.specs.Part.{Result}

abbrev pub run : {A S E : Type 0} → (E → S → Result A S) → S → List E → Result (List A) S
run f s [] = record { answer = []; state = s }
run f s (e ∷ es) = let r = f e s in let t = run f r.state es in record { answer = r.answer ∷ t.answer; state = t.state }
