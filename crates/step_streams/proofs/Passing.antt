-- What the rules ask of a column, as a loop takes it apart row by row. Assumes nothing.
use mathlib.Core.Path.{◌≡◌, refl}
use mathlib.Core.Bool.{Bool, true, not, ◌&&◌, ◌||◌}
use mathlib.Core.List.{List, [], ◌∷◌}
use Rattle.rules.specs.Queues.{room}
use Rattle.rules.specs.Election.{room_open}
use Rattle.rules.specs.State as S

pub room_cons : (o : Bool) (os : List Bool) (q : List S.Response) (qs : List (List S.Response)) → room_open (o ∷ os) (q ∷ qs) ≡ ((not o || room q) && room_open os qs)
unfolding room_open
room_cons o os q qs = refl

pub room-none : (qs : List (List S.Response)) → room_open [] qs ≡ true
unfolding room_open
room-none qs = refl
