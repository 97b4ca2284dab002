-- Exchanges of neighbours: none, one, one after another, behind a head, back again, and of what a function makes of the elements. Assumes nothing.
use Rattle.std.specs.Prelude.{◌≡◌, refl, List, [], ◌∷◌, ◌++◌, map, ℕ, zero, suc}
use Rattle.std.proofs.Common.{ap, ◌∙◌}
use Rattle.rules_exchange.specs.Claim.{swap_at, swaps, Neighbours, Allowed}
use Rattle.merge_verdict.specs.Verdict.{Exchanges}

-- ---- the places

module _ {E : Type 0} where
  swaps-both : (is js : List ℕ) (l : List E) → swaps (is ++ js) l ≡ swaps js (swaps is l)
  swaps-both [] js l = refl
  swaps-both (i ∷ is) js l = swaps-both is js (swap_at i l)

  swaps-under : (is : List ℕ) (x : E) (l : List E) → swaps (map suc is) (x ∷ l) ≡ x ∷ swaps is l
  swaps-under [] x l = refl
  swaps-under (i ∷ is) x l = swaps-under is x (swap_at i l)

module _ {E : Type 0} (R : E → E → Type 0) where
  allowed-both : (is js : List ℕ) (l : List E) → Allowed R is l → Allowed R js (swaps is l) → Allowed R (is ++ js) l
  allowed-both [] js l a b = b
  allowed-both (i ∷ is) js l a b = (a.0, allowed-both is js (swap_at i l) a.1 b)

  allowed-under : (is : List ℕ) (x : E) (l : List E) → Allowed R is l → Allowed R (map suc is) (x ∷ l)
  allowed-under [] x l a = tt
  allowed-under (i ∷ is) x l a = (a.0, allowed-under is x (swap_at i l) a.1)

-- ---- exchanges

module _ {E : Type 0} {R : E → E → Type 0} where
  pub still : {l : List E} → Exchanges R l l
  still = record { places = []; allowed = tt; ends = refl }

  pub two : {x y : E} {l : List E} → R x y → Exchanges R (x ∷ y ∷ l) (y ∷ x ∷ l)
  two r = record { places = 0 ∷ []; allowed = (r, tt); ends = refl }

  pub chain : {k l m : List E} → Exchanges R k l → Exchanges R l m → Exchanges R k m
  chain {k} p q = record {
    places = p.places ++ q.places;
    allowed = allowed-both R p.places q.places k p.allowed (rw p.ends q.allowed);
    ends = swaps-both p.places q.places k ∙ ap (swaps q.places) p.ends ∙ q.ends;
  }

  pub under : (x : E) {l m : List E} → Exchanges R l m → Exchanges R (x ∷ l) (x ∷ m)
  under x {l} p = record {
    places = map suc p.places;
    allowed = allowed-under R p.places x l p.allowed;
    ends = swaps-under p.places x l ∙ ap (λ k. x ∷ k) p.ends;
  }

-- ---- of what f makes of the elements

module _ {A B : Type 0} (f : A → B) (R : B → B → Type 0) where
  swap-map : (i : ℕ) (l : List A) → swap_at i (map f l) ≡ map f (swap_at i l)
  swap-map i [] = refl
  swap-map zero (x ∷ []) = refl
  swap-map zero (x ∷ y ∷ l) = refl
  swap-map (suc i) (x ∷ l) = ap (λ k. f x ∷ k) (swap-map i l)

  swaps-map : (is : List ℕ) (l : List A) → swaps is (map f l) ≡ map f (swaps is l)
  swaps-map [] l = refl
  swaps-map (i ∷ is) l = ap (swaps is) (swap-map i l) ∙ swaps-map is (swap_at i l)

  neighbours-map : (i : ℕ) (l : List A) → Neighbours (λ x y. R (f x) (f y)) i l → Neighbours R i (map f l)
  neighbours-map i [] n = absurd n
  neighbours-map zero (x ∷ []) n = absurd n
  neighbours-map zero (x ∷ y ∷ l) n = n
  neighbours-map (suc i) (x ∷ l) n = neighbours-map i l n

  allowed-map : (is : List ℕ) (l : List A) → Allowed (λ x y. R (f x) (f y)) is l → Allowed R is (map f l)
  allowed-map [] l a = tt
  allowed-map (i ∷ is) l a = (neighbours-map i l a.0, rw (swap-map i l) (allowed-map is (swap_at i l) a.1))

  pub exchanges-map : {l m : List A} → Exchanges (λ x y. R (f x) (f y)) l m → Exchanges R (map f l) (map f m)
  exchanges-map {l} p = record {
    places = p.places;
    allowed = allowed-map p.places l p.allowed;
    ends = swaps-map p.places l ∙ ap (map f) p.ends;
  }
