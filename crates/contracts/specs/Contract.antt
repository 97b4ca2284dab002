-- What a contract lets a call do, and what it is to leave one answer. Assumes nothing.
use Rattle.std.specs.Prelude.{◌≡◌}
use Rattle.std.proofs.Common.{sym, ap, ◌∙◌}

-- `post` is the contract of a function, as its `ensures` has it: of the lifetimes, the arguments, the result, and the arguments at exit. `given` is what a call is handed, numbers and
-- bytes, and `left` what stands at exit in the bytes that it was lent by `&mut`. (Bytes lent by `&` are as they were: nothing can write them.)
module _ {L G R H : Type 0} {A E : L → Type 0} (post : (κs : L) → A κs → R → E κs → Type 0) (given : (κs : L) → A κs → G) (left : (κs : L) → E κs → H) where
  -- By its contract, a call that is given g may return r and leave h.
  pub record May (g : G) (r : R) (h : H) : Type 0 where
    pub lifetimes : L
    pub arguments : A lifetimes
    pub exit : E lifetimes
    pub is-given : given lifetimes arguments ≡ g
    pub leaves : left lifetimes exit ≡ h
    pub met : post lifetimes arguments r exit

-- No second answer: two calls that are given the same return the same and leave the same.
abbrev pub One : {G R H : Type 0} → (G → R → H → Type 0) → Type 0
One {G} {R} {H} may = (g : G) (r q : R) (h k : H) → may g r h → may g q k → (r ≡ q) × (h ≡ k)

-- The only answer to g is r, and all that is left is h.
abbrev pub Gives : {G R H : Type 0} → (G → R → H → Type 0) → G → R → H → Type 0
Gives {G} {R} {H} may g r h = (q : R) (k : H) → may g q k → (q ≡ r) × (k ≡ h)

-- To every g, f g is the only answer, and b g is left.
abbrev pub Only : {G R H : Type 0} → (G → R → H → Type 0) → (G → R) → (G → H) → Type 0
Only {G} may f b = (g : G) → Gives may g (f g) (b g)

module _ {G R H : Type 0} (f : G → R) (b : G → H) where
  pub one : (may : G → R → H → Type 0) → Only may f b → One may
  one may only g r q h k m n = ((only g r h m).0 ∙ sym (only g q k n).0, (only g r h m).1 ∙ sym (only g q k n).1)

  module _ {L : Type 0} {A E : L → Type 0} (post : (κs : L) → A κs → R → E κs → Type 0) (given : (κs : L) → A κs → G) (left : (κs : L) → E κs → H) where
    -- Where the contract says so of the arguments, it says so of what they hold.
    pub only : ((κs : L) (a : A κs) (r : R) (e : E κs) → post κs a r e → (r ≡ f (given κs a)) × (left κs e ≡ b (given κs a))) → Only (May post given left) f b
    only says g r h m =
        let s = says m.lifetimes m.arguments r m.exit m.met in
        (s.0 ∙ ap f m.is-given, sym m.leaves ∙ s.1 ∙ ap b m.is-given)
