-- Pairs that are independent, for each line one with both steps done and one with a step refused; and pairs that are not. Assumes nothing.
use Rattle.std.specs.Prelude.{◌≡◌, Bool, false, ◌&&◌, List, [], ◌∷◌, ℕ, T, eqb}
use Rattle.std.proofs.Common.{ap₂}
use Rattle.rules.specs.State.{State}
use Rattle.rules.specs.Step.{Event, step, fresh}
use Rattle.rules.specs.Run.{run}
use Rattle.rules_laws.specs.Computed.{computed}
use Rattle.rules_laws.specs.All.{All}
use Rattle.rules_laws.specs.Tests.{Is, is-map, ◌&◌, as-is, is-not, is_eq, is_all}
use Rattle.rules_exchange.specs.Independent.{listed, exists, independent}
use Rattle.rules_exchange.specs.Claim.{Allowed}

-- A step of kind k for node n.
infix 70 ◌for◌
abbrev pub ◌for◌ : ℕ → ℕ → Event
k for n = record { kind = k; node = n }

-- ---- independent pairs

-- Two steps after some others, from fresh, and what the two answer.
pub record Example : Type 0 where
  pub count : ℕ
  pub before : List Event
  pub one : Event
  pub answer : ℕ
  pub other : Event
  pub answer' : ℕ

abbrev example : ℕ → List Event → Event → ℕ → Event → ℕ → Example
example count before one answer other answer' = record { count = count; before = before; one = one; answer = answer; other = other; answer' = answer' }

abbrev pub start : Example → State
start x = (run step (fresh x.count) x.before).state

-- The two steps are independent, and each has its answer in either order.
pub record Shown (x : Example) : Type 0 where
  pub free : T (independent x.count x.one x.other)
  pub in_order : (run step (start x) (x.one ∷ x.other ∷ [])).answer ≡ x.answer ∷ x.answer' ∷ []
  pub exchanged : (run step (start x) (x.other ∷ x.one ∷ [])).answer ≡ x.answer' ∷ x.answer ∷ []

-- The first step, then the second, answer so.
answers_so : State → Event → ℕ → Event → ℕ → Bool
answers_so s e a f b = let r = step e s in eqb r.answer a && eqb (step f r.state).answer b

shows : Example → Bool
shows x = let s = start x in
    independent x.count x.one x.other
    && answers_so s x.one x.answer x.other x.answer'
    && answers_so s x.other x.answer' x.one x.answer

abbrev pub examples : List Example
examples =
    -- (a)
    example 2 (1 for 1 ∷ []) (3 for 1) 0 (3 for 2) 0
    ∷ example 2 (1 for 1 ∷ 3 for 1 ∷ 8 for 1 ∷ []) (4 for 1) 0 (5 for 2) 4
    -- (b)
    ∷ example 2 (1 for 1 ∷ 3 for 1 ∷ 8 for 1 ∷ []) (1 for 2) 0 (4 for 1) 0
    ∷ example 2 (1 for 1 ∷ 3 for 1 ∷ 8 for 1 ∷ 4 for 1 ∷ 10 for 1 ∷ []) (1 for 1) 4 (5 for 1) 0
    -- (c)
    ∷ example 2 [] (1 for 1) 0 (8 for 1) 0
    ∷ example 2 [] (2 for 1) 4 (12 for 0) 0
    -- (d)
    ∷ example 2 (1 for 1 ∷ []) (3 for 1) 0 (8 for 1) 0
    ∷ example 2 [] (3 for 1) 4 (12 for 0) 0
    -- (e)
    ∷ example 2 (1 for 1 ∷ 1 for 2 ∷ 3 for 1 ∷ 3 for 2 ∷ 3 for 2 ∷ 8 for 1 ∷ 8 for 2 ∷ 4 for 2 ∷ []) (4 for 1) 0 (10 for 2) 0
    ∷ example 2 (1 for 1 ∷ 3 for 1 ∷ 8 for 1 ∷ []) (4 for 1) 0 (9 for 2) 4
    -- (f)
    ∷ example 2 (1 for 1 ∷ 3 for 1 ∷ 8 for 1 ∷ 4 for 1 ∷ 10 for 1 ∷ []) (5 for 1) 0 (8 for 2) 0
    ∷ example 2 [] (5 for 1) 4 (8 for 2) 0
    ∷ []

is-so : (s : State) (e : Event) (a : ℕ) (f : Event) (b : ℕ) → Is (answers_so s e a f b) ((run step s (e ∷ f ∷ [])).answer ≡ a ∷ b ∷ [])
unfolding answers_so
is-so s e a f b = is-map (λ t. ap₂ (λ x y. x ∷ y ∷ []) t.0 t.1) (λ h. (cc, cc)) (is_eq (step e s).answer a & is_eq (step f (step e s).state).answer b)

is-shown : (x : Example) → Is (shows x) (Shown x)
unfolding shows
is-shown x = is-map (λ t. record { free = t.0.0; in_order = t.0.1; exchanged = t.1 }) (λ k. ((k.free, k.in_order), k.exchanged))
    (as-is (independent x.count x.one x.other)
    & is-so (start x) x.one x.answer x.other x.answer'
    & is-so (start x) x.other x.answer' x.one x.answer)

pub shown : All Shown examples
unfolding computed shows answers_so listed exists independent
shown = (is_all is-shown examples).to tt

-- The premise of claim 3 can be met more than once in a list: Join 2 moves past Connect 1, and then past Receive update 1.
pub moves : Allowed (λ e f. T (independent 2 e f)) (0 ∷ 1 ∷ []) (1 for 2 ∷ 8 for 1 ∷ 5 for 1 ∷ [])
unfolding computed listed exists independent
moves = (tt, (tt, tt))

-- ---- pairs that are not independent

pub record Couple : Type 0 where
  pub one : Event
  pub other : Event

infix 68 ◌with◌
abbrev ◌with◌ : Event → Event → Couple
e with f = record { one = e; other = f }

-- Each among two nodes.
abbrev pub couples : List Couple
couples =
    -- service with learn, service with service, switch with switch, power with a node
    3 for 1 with 1 for 2
    ∷ 2 for 1 with 3 for 2
    ∷ 1 for 1 with 1 for 2
    ∷ 8 for 1 with 8 for 2
    ∷ 4 for 1 with 12 for 0
    ∷ 13 for 0 with 7 for 1
    -- receive with a step that may tell it
    ∷ 5 for 1 with 9 for 2
    ∷ 7 for 1 with 10 for 2
    -- one node, where the list asks for different nodes
    ∷ 3 for 1 with 3 for 1
    ∷ 3 for 1 with 4 for 1
    ∷ 4 for 1 with 5 for 1
    ∷ 4 for 1 with 10 for 1
    ∷ 5 for 1 with 8 for 1
    -- a kind that is not known
    ∷ 14 for 1 with 1 for 1
    ∷ 1 for 1 with 0 for 1
    -- a node that is not called for
    ∷ 1 for 3 with 8 for 1
    ∷ 1 for 0 with 8 for 1
    ∷ 12 for 1 with 1 for 1
    ∷ []

abbrev pub Unlisted : Couple → Type 0
Unlisted c = independent 2 c.one c.other ≡ false

pub unlisted : All Unlisted couples
unfolding computed listed exists independent
unlisted = (is_all (λ c. is-not (independent 2 c.one c.other)) couples).to tt
