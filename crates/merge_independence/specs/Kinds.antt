-- Which nodes the kinds call for, by their numbers. Assumes nothing.
use Rattle.std.specs.Prelude.{◌≡◌, ◌≢◌, ◌⊎◌, Bool, false, ℕ, ◌≤◌, ◌<◌, eqb}
use Rattle.std.proofs.Common.{sym, inl, inr}
use Rattle.std.proofs.Math.Path.{refl, ap}
use Rattle.std.proofs.Math.Option.{Option, none}
use Rattle.rules.specs.Range.{within}
use Rattle.rules.specs.Rules.{Kind}
use Rattle.rules.specs.Step.{kind_of, number_of}
use Rattle.rules_laws.specs.Kinds.{of_node, of-power, of_none}
use Rattle.step_parts.specs.Kinds.{hold_kind}
use Rattle.step_parts.specs.declared.Kind as C
use Rattle.step_parts.specs.declared.Kind.TheVariants as K
use Rattle.rules_exchange.specs.Independent.{calls, exists}
use Rattle.merge_independence.specs.Asks.{event}

module _ (count node : ℕ) where
  abbrev calls_here : Option Kind → Bool
  calls_here k = calls k count node

  pub none-exists : (kind : ℕ) → kind ≡ 0 → exists count (event kind node) ≡ false
  unfolding exists
  none-exists kind e = ap (λ (k : ℕ). calls_here (kind_of k)) e

  pub at-node : (kind : ℕ) → 1 ≤ kind → kind < 12 → exists count (event kind node) ≡ within 1 count node
  unfolding exists
  at-node = of_node calls_here (within 1 count node) (eqb node 0) refl

  pub at_none : (kind : ℕ) → 12 ≤ kind → kind < 14 → exists count (event kind node) ≡ eqb node 0
  unfolding exists
  at_none = of-power calls_here (within 1 count node) (eqb node 0) refl

  pub past_all : (kind : ℕ) → 14 ≤ kind → exists count (event kind node) ≡ false
  unfolding exists
  past_all = of_none calls_here (within 1 count node) (eqb node 0) refl

  -- By the kinds of the code.
  pub power-exists : (k : C.Kind) → (k ≡ K.Shutdown) ⊎ (k ≡ K.Startup) → eqb node 0 ≡ exists count (event (number_of (hold_kind k)) node)
  unfolding exists
  power-exists k (inl e) = rw e refl
  power-exists k (inr e) = rw e refl

  pub node-exists : (k : C.Kind) → k ≢ K.Shutdown → k ≢ K.Startup → within 1 count node ≡ exists count (event (number_of (hold_kind k)) node)
  unfolding exists
  node-exists K.Join a b = refl
  node-exists K.Leave a b = refl
  node-exists K.Learn a b = refl
  node-exists K.SendUpdate a b = refl
  node-exists K.ReceiveUpdate a b = refl
  node-exists K.SendWrite a b = refl
  node-exists K.ReceiveWrite a b = refl
  node-exists K.Connect a b = refl
  node-exists K.Close a b = refl
  node-exists K.HandleUpdate a b = refl
  node-exists K.HandleWrite a b = refl
  node-exists K.Shutdown a b = absurd (a refl)
  node-exists K.Startup a b = absurd (b refl)

  pub unknown-exists : (number : ℕ) → kind_of number ≡ none → false ≡ exists count (event number node)
  unfolding exists
  unknown-exists number e = ap (λ (k : Option Kind). calls_here k) (sym e)
