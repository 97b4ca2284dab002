-- The parts of two steps that the list names lie apart. Assumes nothing.
use Rattle.std.proofs.Common.{sym, arith}
use Rattle.std.specs.Prelude.{◌≢◌, not, ℕ, ◌-◌, T, eqb}
use Rattle.rules.specs.State.{State}
use Rattle.rules.specs.Range.{within}
use Rattle.rules.specs.Part.{Part}
use Rattle.rules.specs.Parts.{Device, on_device, link_part, tell_part, serve_part, power_part, Class, service, learn, send, receive, part}
use Rattle.rules.specs.Step.{Event}
use Rattle.rules_laws.specs.All.{All}
use Rattle.rules_laws.specs.Tests.{is_ne, is_within}
use Rattle.rules_exchange.specs.Independent.{switch_kinds, node_kinds, lines, listed}
use Rattle.rules_exchange.specs.Apart.{Apart, apart-sym}
use Rattle.rules_exchange.specs.Parts.{service-send, service-receive, service-device, learn-device, learn-learn, learn-send, learn-receive, send-send, send-receive, receive-receive, send-link, send-tell, send-serve, receive-link, receive-serve}
use Rattle.rules_exchange.specs.Listed.{Each, Pair, Says, Both, among}

-- What holds of a list: of its first, and of the rest.
infixr 20 ◌and◌
◌and◌ : {A B : Type 0} → A → B → A × B
a and b = (a, b)

-- Of two kinds of one class.
twice : {A : Type 0} → A → A × (A × Unit {0})
twice a = a and a and tt

-- Of the kinds 3, 4, 6, 5 and 7.
nodes : (Q : Class → Type 0) → Q learn → Q send → Q receive → Each Q node_kinds
nodes Q l s r = l and s and s and r and r and tt

-- ---- the list, for a step at node n and one at node m

module _ (count n m : ℕ) where
  -- Different nodes stand at different places.
  places : T (not (eqb n m)) → T (within 1 count n) → T (within 1 count m) → n - 1 ≢ m - 1
  places d x y =
      let p = (is_within 1 count n).to x in
      let q = (is_within 1 count m).to y in
      let z : n ≢ m = (is_ne n m).to d in
      omega arith

  -- A fact of any two nodes at different places, for n and m and the other way round.
  module _ {R W R' W' : Type 0} {p : ℕ → Part State R W} {q : ℕ → Part State R' W'}
      (d : T (not (eqb n m))) (a : (n m : ℕ) → n - 1 ≢ m - 1 → m - 1 ≢ n - 1 → Apart (p n) (q m)) where
    there : T (within 1 count n) → T (within 1 count m) → Apart (p n) (q m)
    there x y = a n m (places d x y) (λ e. places d x y (sym e))

    back : T (within 1 count n) → T (within 1 count m) → Apart (q n) (p m)
    back x y = apart-sym (a m n (λ e. places d x y (sym e)) (places d x y))

  -- What lies apart from every part of the device lies apart from every step of the switch.
  switches : (x : Class) → ((R W : Type 0) (p : Part Device R W) → Apart (part x n) (on_device p)) → Each (Pair count n m x) switch_kinds
  switches x a =
      (λ h k. a _ _ (link_part m)) and (λ h k. a _ _ (tell_part m)) and (λ h k. a _ _ (tell_part m)) and (λ h k. a _ _ (serve_part m))
      and (λ h k. a _ _ power_part) and (λ h k. a _ _ power_part) and tt

  says : All (Says count n m) lines
  says =
      -- (a)
      (λ d. nodes (λ x. Each (Pair count n m x) node_kinds)
      (nodes (Pair count n m learn) (there d learn-learn) (there d learn-send) (there d learn-receive))
      (nodes (Pair count n m send) (back d learn-send) (there d send-send) (there d send-receive))
      (nodes (Pair count n m receive) (back d learn-receive) (back d send-receive) (there d receive-receive)))
      -- (b), (c), (d)
      and (λ d. twice ((λ h k. service-send m) and (λ h k. service-send m) and (λ h k. service-receive m) and (λ h k. service-receive m) and tt))
      and (λ d. twice (switches service (λ R W p. service-device p)))
      and (λ d. switches learn (λ R W p. learn-device p n) and tt)
      -- (e), (f)
      and (λ d. twice (there d send-link and there d send-tell and there d send-tell and there d send-serve and tt))
      and (λ d. twice (there d receive-link and there d receive-serve and tt))
      and tt

-- ---- two steps that are listed

module _ (count : ℕ) (e f : Event) where
  pub listed-apart : T (listed lines e f) → Both count e f
  listed-apart = among count e f lines (says count e.node f.node)
