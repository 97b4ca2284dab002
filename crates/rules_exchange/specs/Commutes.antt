-- Neighbours that commute may be exchanged in a list, any number of times: for any states, events and answers. Assumes nothing.
use Rattle.std.specs.Prelude.{◌≡◌, refl, List, [], ◌∷◌, ℕ, zero, suc}
use Rattle.std.proofs.Common.{sym, ap, ◌∙◌}
use Rattle.rules.specs.Part.{Result}
use Rattle.rules.specs.Run.{run}
use Rattle.rules_exchange.specs.Claim.{swap_at, swaps, Neighbours, Allowed}
use Rattle.rules_exchange.specs.Apart.{Commute}

-- Good states stay good, and there free neighbours commute.
module _ {A S E : Type 0} (step : E → S → Result A S) (Good : S → Type 0) (keeps : (e : E) (s : S) → Good s → Good (step e s).state)
    (Free : E → E → Type 0) (commutes : (e e' : E) → Free e e' → (s : S) → Good s → Commute (step e) (step e') s) where
  one_state : (i : ℕ) (es : List E) (s : S) → Good s → Neighbours Free i es → (run step s (swap_at i es)).state ≡ (run step s es).state
  one_state i [] s g n = absurd n
  one_state zero (e ∷ []) s g n = absurd n
  one_state zero (e ∷ e' ∷ es) s g n = ap (λ t. (run step t es).state) (sym (commutes e e' n s g).same)
  one_state (suc i) (e ∷ es) s g n = one_state i es (step e s).state (keeps e s g) n

  one-answers : (i : ℕ) (es : List E) (s : S) → Good s → Neighbours Free i es → (run step s (swap_at i es)).answer ≡ swap_at i (run step s es).answer
  one-answers i [] s g n = absurd n
  one-answers zero (e ∷ []) s g n = absurd n
  one-answers zero (e ∷ e' ∷ es) s g n = let c = commutes e e' n s g in rw (c.same, c.first, c.second)
  one-answers (suc i) (e ∷ es) s g n = ap (λ l. (step e s).answer ∷ l) (one-answers i es (step e s).state (keeps e s g) n)

  pub runs-state : (is : List ℕ) (es : List E) (s : S) → Good s → Allowed Free is es → (run step s (swaps is es)).state ≡ (run step s es).state
  runs-state [] es s g n = refl
  runs-state (i ∷ is) es s g n = runs-state is (swap_at i es) s g n.1 ∙ one_state i es s g n.0

  pub runs-answers : (is : List ℕ) (es : List E) (s : S) → Good s → Allowed Free is es → (run step s (swaps is es)).answer ≡ swaps is (run step s es).answer
  runs-answers [] es s g n = refl
  runs-answers (i ∷ is) es s g n = runs-answers is (swap_at i es) s g n.1 ∙ ap (swaps is) (one-answers i es s g n.0)
