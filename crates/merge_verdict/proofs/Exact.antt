-- The merge verdict is exact, and its yes keeps its promise. Assumes nothing.
use Rattle.std.specs.Prelude.{◌≡◌, refl, Bool, true, false, List, [], ◌∷◌, ℕ, zero, suc, T}
use Rattle.std.proofs.Common.{sym, ap, ◌∙◌, arith}
use Rattle.rules.specs.State.{State}
use Rattle.rules.specs.Range.{in_range}
use Rattle.rules.specs.Step.{Event, step}
use Rattle.rules.specs.Run.{run}
use Rattle.rules_exchange.specs.Independent.{independent}
use Rattle.rules_exchange.specs.Claim.{swap_at, swaps, Neighbours, Allowed}
use Rattle.rules_exchange.proofs.Exchange.{exchange}
use Rattle.merge_verdict.specs.Verdict.{Exchanges, Pulled, taken, blocked, missing, behind, met, pull, when_taken, exchangeable, same_event, Independent, same_merge, Exact, Same, Promise}
use Rattle.merge_verdict.specs.Chains.{still, two, chain, under}
use Rattle.merge_verdict.specs.Steps.{same-eq, same_refl, independent-self}

-- ---- for any events, with a test of sameness that says what it should, and none free of itself

-- What comes of looking in a list with two neighbours exchanged: what came before, or that with two neighbours exchanged.
data Found {E : Type 0} (free : E → E → Bool) (g : List E) (o : Pulled E) : Type 0 where
  as_before : o ≡ taken g → Found free g o
  exchanged : (j : ℕ) → Neighbours (λ x y. T (free x y)) j g → o ≡ taken (swap_at j g) → Found free g o

pub never : {A B : Type 0} {x : A} {l : List A} → blocked x ≡ taken l → B
never e = let z : ◌≡◌ {A = ℕ} 0 1 = cc in absurd (omega arith)

pub nowhere : {A B : Type 0} {l : List A} → missing ≡ taken l → B
nowhere e = let z : ◌≡◌ {A = ℕ} 0 1 = cc in absurd (omega arith)

module _ {E : Type 0} (free same : E → E → Bool) (same-eq : (x y : E) → T (same x y) → x ≡ y) where
  abbrev Free : E → E → Type 0
  Free x y = T (free x y)

  -- What is taken may go back to its place.
  put_back : (e : E) (l g : List E) → pull (free e) (same e) l ≡ taken g → Exchanges Free (e ∷ g) l
  put_back e [] g p = nowhere p
  put_back e (x ∷ l) g p = go (free e x) refl (same e x) refl (pull (free e) (same e) l) (put_back e l) p
    where
      go : (a : Bool) → free e x ≡ a → (b : Bool) → same e x ≡ b → (o : Pulled E) → ((h : List E) → o ≡ taken h → Exchanges Free (e ∷ h) l)
          → met a b x l o ≡ taken g → Exchanges Free (e ∷ g) (x ∷ l)
      go true i b j (taken h) f q = let s : x ∷ h ≡ g = cc in rw (← s) (chain (two (rw i tt)) (under x (f h refl)))
      go true i b j (blocked y) f q = never q
      go true i b j missing f q = nowhere q
      go false i true j o f q = let s : l ≡ g = cc in rw (same-eq e x (rw j tt), s) still
      go false i false j o f q = never q

  pub sound : (es fs : List E) → T (exchangeable free same es fs) → Exchanges Free es fs
  sound [] [] t = still
  sound [] (f ∷ fs) t = absurd t
  sound (e ∷ es) fs t = go (pull (free e) (same e) fs) refl (sound es) t
    where
      go : (o : Pulled E) → pull (free e) (same e) fs ≡ o → ((g : List E) → T (exchangeable free same es g) → Exchanges Free es g)
          → T (when_taken (exchangeable free same es) o) → Exchanges Free (e ∷ es) fs
      go (taken g) i f u = chain (under e (f g u)) (put_back e fs g i)
      go (blocked x) i f u = absurd u
      go missing i f u = absurd u

  moved : (e : E) (i : ℕ) (l g : List E) → pull (free e) (same e) l ≡ taken g → Neighbours Free i l → Found free g (pull (free e) (same e) (swap_at i l))
  moved e i [] g p n = absurd n
  moved e zero (x ∷ []) g p n = absurd n
  moved e zero (x ∷ y ∷ l) g p n = go (free e x) (same e x) refl (free e y) refl (same e y) (pull (free e) (same e) l) p
    where
      go : (a b : Bool) → same e x ≡ b → (c : Bool) → free e y ≡ c → (d : Bool) (o : Pulled E) → met a b x (y ∷ l) (met c d y l o) ≡ taken g
          → Found free g (met c d y (x ∷ l) (met a b x l o))
      go true b j true k d (taken h) q = let s : x ∷ y ∷ h ≡ g = cc in rw (← s) (exchanged 0 n refl)
      go true b j true k d (blocked z) q = never q
      go true b j true k d missing q = nowhere q
      go true b j false k true o q = as_before q
      go true b j false k false o q = never q
      go false true j true k d o q = as_before q
      go false true j false k d o q = let u = same-eq e x (rw j tt) in absurd (rw (← u, k) at n)
      go false false j c k d o q = never q
  moved e (suc i) (x ∷ l) g p n = go (free e x) (same e x) (pull (free e) (same e) l) (λ h k. moved e i l h k n) p
    where
      more : (h : List E) → x ∷ h ≡ g → Found free h (pull (free e) (same e) (swap_at i l)) → Found free g (behind x (pull (free e) (same e) (swap_at i l)))
      more h s (as_before z) = as_before (ap (behind x) z ∙ ap taken s)
      more h s (exchanged j m z) = rw (← s) (exchanged (suc j) m (ap (behind x) z))

      go : (a b : Bool) (o : Pulled E) → ((h : List E) → o ≡ taken h → Found free h (pull (free e) (same e) (swap_at i l)))
          → met a b x l o ≡ taken g → Found free g (met a b x (swap_at i l) (pull (free e) (same e) (swap_at i l)))
      go true b (taken h) f q = more h (cc) (f h refl)
      go true b (blocked y) f q = never q
      go true b missing f q = nowhere q
      go false true o f q = let s : l ≡ g = cc in rw (← s) (exchanged i n refl)
      go false false o f q = never q

  one_more : (es l : List E) (i : ℕ) → T (exchangeable free same es l) → Neighbours Free i l → T (exchangeable free same es (swap_at i l))
  one_more [] [] i t n = absurd n
  one_more [] (f ∷ fs) i t n = absurd t
  one_more (e ∷ es) l i t n = go (pull (free e) (same e) l) refl t (one_more es)
    where
      out : (g : List E) → T (exchangeable free same es g) → ((j : ℕ) → Neighbours Free j g → T (exchangeable free same es (swap_at j g)))
          → Found free g (pull (free e) (same e) (swap_at i l)) → T (when_taken (exchangeable free same es) (pull (free e) (same e) (swap_at i l)))
      out g u f (as_before z) = rw z u
      out g u f (exchanged j m z) = rw z (f j m)

      go : (o : Pulled E) → pull (free e) (same e) l ≡ o → T (when_taken (exchangeable free same es) o)
          → ((g : List E) (j : ℕ) → T (exchangeable free same es g) → Neighbours Free j g → T (exchangeable free same es (swap_at j g)))
          → T (when_taken (exchangeable free same es) (pull (free e) (same e) (swap_at i l)))
      go (taken g) k u f = out g u (λ j m. f g j u m) (moved e i l g k n)
      go (blocked x) k u f = absurd u
      go missing k u f = absurd u

  all_more : (es : List E) (is : List ℕ) (l : List E) → T (exchangeable free same es l) → Allowed Free is l → T (exchangeable free same es (swaps is l))
  all_more es [] l t a = t
  all_more es (i ∷ is) l t a = all_more es is (swap_at i l) (one_more es l i t a.0) a.1

  module _ (same_refl : (x : E) → same x x ≡ true) (free-self : (x : E) → free x x ≡ false) where
    itself : (es : List E) → T (exchangeable free same es es)
    itself [] = tt
    itself (e ∷ es) = rw (free-self e, same_refl e) (itself es)

    pub complete : (es fs : List E) → Exchanges Free es fs → T (exchangeable free same es fs)
    complete es fs p = rw (← p.ends) (all_more es p.places es (itself es) p.allowed)

-- ---- for steps

pub exact : Exact
unfolding same_merge
exact count es fs = (sound (independent count) same_event same-eq es fs, complete (independent count) same_event same-eq same_refl (independent-self count) es fs)

-- Exchanges of independent neighbours keep the promise: claim 3.
pub by-exchanges : (s : State) (es fs : List Event) → T (in_range s) → Exchanges (Independent s.count) es fs → Same s es fs
by-exchanges s es fs r p =
    let x = exchange s es p.places r p.allowed in
    let e = sym p.ends in
    record {
      exchanges = p;
      state = ap (λ l. (run step s l).state) e ∙ x.state;
      history = ap (λ l. (run step s l).state.history) e ∙ x.history;
      answers = ap (λ l. (run step s l).answer) e ∙ x.answers;
    }

pub promise : Promise
promise s es fs r t = by-exchanges s es fs r ((exact s.count es fs).0 t)
