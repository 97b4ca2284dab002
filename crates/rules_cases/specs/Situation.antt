-- A situation: from a state in range, steps with their answers, and what then stands in the state. Assumes nothing.
use Rattle.std.specs.Prelude.{◌≡◌, Bool, true, false, ◌&&◌, ℕ, ◌-◌, get_or, T}
use mathlib.Core.List.{List, [], ◌∷◌}
use Rattle.rules.specs.State.{Mastership, Request, Response, Write, State, blank}
use Rattle.rules.specs.Range.{in_range}
use Rattle.rules.specs.Part.{Result}
use Rattle.rules.specs.Step.{Event, step}
use Rattle.rules.specs.Run.{run}
use Rattle.rules_laws.specs.Tests.{◌&◌, as-is}
use Rattle.rules_cases.specs.Equal.{Equality, number, flag, written, request, response, mastership, list}

-- ---- what is said of a state

-- What is looked at, and what stands there.
pub record Claim : Type 1 where
  pub A : Type 0
  pub equality : Equality A
  pub look : State → A
  pub stands : A

abbrev pub history : List Write → Claim
history l = record { A = List Write; equality = list written; look = λ s. s.history; stands = l }

abbrev pub service : Mastership → Claim
service m = record { A = Mastership; equality = mastership; look = λ s. s.core.desk.service; stands = m }

abbrev pub last : ℕ → Claim
last t = record { A = ℕ; equality = number; look = λ s. s.core.board.last; stands = t }

-- The switch's master and the largest id, as they are kept.
abbrev pub master : ℕ → Claim
master n = record { A = ℕ; equality = number; look = λ s. s.core.board.held.master; stands = n }

abbrev pub largest : ℕ → Claim
largest i = record { A = ℕ; equality = number; look = λ s. s.core.board.held.largest; stands = i }

-- Of node n.
module _ (n : ℕ) where
  abbrev pub events : List Mastership → Claim
  events q = record { A = List Mastership; equality = list mastership; look = λ s. get_or s.core.desk.events (n - 1) []; stands = q }

  abbrev pub learned : Mastership → Claim
  learned m = record { A = Mastership; equality = mastership; look = λ s. get_or s.core.learned (n - 1) blank; stands = m }

  abbrev pub says : Bool → Claim
  says b = record { A = Bool; equality = flag; look = λ s. get_or s.core.says (n - 1) false; stands = b }

  abbrev pub is_open : Bool → Claim
  is_open b = record { A = Bool; equality = flag; look = λ s. get_or s.core.board.opens (n - 1) false; stands = b }

  abbrev pub requests : List Request → Claim
  requests q = record { A = List Request; equality = list request; look = λ s. get_or s.core.board.requests (n - 1) []; stands = q }

  abbrev pub responses : List Response → Claim
  responses q = record { A = List Response; equality = list response; look = λ s. get_or s.core.board.responses (n - 1) []; stands = q }

  abbrev pub id : ℕ → Claim
  id i = record { A = ℕ; equality = number; look = λ s. get_or s.core.board.held.ids (n - 1) 0; stands = i }

-- ---- situations

pub record Situation : Type 1 where
  pub start : State
  pub steps : List Event
  pub answers : List ℕ
  pub ends : List Claim

-- P holds of each.
abbrev pub Every : {A : Type 1} → (A → Type 0) → List A → Type 0
Every P [] = Unit {0}
Every P (x ∷ l) = P x × Every P l

pub record Holds (x : Situation) : Type 0 where
  pub in-range : T (in_range x.start)
  pub answers : (run step x.start x.steps).answer ≡ x.answers
  pub ends : Every (λ c. c.look (run step x.start x.steps).state ≡ c.stands) x.ends

-- ---- the test

unfoldable pub every : {A : Type 1} → (A → Bool) → List A → Bool
every p [] = true
every p (x ∷ l) = p x && every p l

unfoldable pub stands : State → Claim → Bool
stands s c = c.equality.test (c.look s) c.stands

unfoldable pub came : Situation → Result (List ℕ) State → Bool
came x r = (list number).test r.answer x.answers && every (stands r.state) x.ends

unfoldable pub holds : Situation → Bool
holds x = in_range x.start && came x (run step x.start x.steps)

module _ {A : Type 1} (p : A → Bool) {P : A → Type 0} (f : (x : A) → T (p x) → P x) where
  -- Where the test holds of a list, what it means holds of each.
  pub each : (l : List A) → T (every p l) → Every P l
  unfolding every
  each [] h = tt
  each (x ∷ l) h = let t = (as-is (p x) & as-is (every p l)).to h in (f x t.0, each l t.1)

pub it-holds : (x : Situation) → T (holds x) → Holds x
unfolding holds came stands
it-holds x h =
    let r = run step x.start x.steps in
    let t = (as-is (in_range x.start) & as-is (came x r)).to h in
    let u = (as-is ((list number).test r.answer x.answers) & as-is (every (stands r.state) x.ends)).to t.1 in
    record {
      in-range = t.0;
      answers = (list number).sound r.answer x.answers u.0;
      ends = each (stands r.state) (λ c v. c.equality.sound (c.look r.state) c.stands v) x.ends u.1;
    }
