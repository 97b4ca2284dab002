-- Looking for a record among places in order: what blocks it, and what is left. Assumes nothing.
use Rattle.std.specs.Prelude.{◌≡◌, refl, Bool, true, false, List, [], ◌∷◌, ℕ, zero, suc, ◌<◌}
use Rattle.std.proofs.Common.{sym, ap, subst, ◌∙◌, true≢false, arith}
use Rattle.std.proofs.Math.Option.{some}
use Rattle.rules_laws.specs.All.{All}
use Rattle.merge_verdict.specs.Verdict.{Pulled, taken, blocked, missing, met, pull}
use Rattle.any_search.specs.Places.{from, found, seek}
use Rattle.merge_compare.specs.Left.{nowhere}

-- ---- places in order

abbrev pub Rising : List ℕ → Type 0
Rising [] = Unit {0}
Rising (x ∷ l) = All (λ y. x < y) l × Rising l

above : (a n x : ℕ) → x < a → All (λ y. x < y) (from a n)
above a zero x h = tt
above a (suc n) x h = (h, above (suc a) n x (omega arith))

pub from-rising : (a n : ℕ) → Rising (from a n)
from-rising a zero = tt
from-rising a (suc n) = (above (suc a) n a (omega arith), from-rising (suc a) n)

-- What a search finds passes the test, and has what all have.
pub sought-test : (test : ℕ → Bool) (l : List ℕ) (x : ℕ) → seek test l ≡ some x → test x ≡ true
sought-test test [] x e = nowhere e
sought-test test (y ∷ l) x e = go (test y) refl (sought-test test l x) e
  where
    go : (b : Bool) → test y ≡ b → (seek test l ≡ some x → test x ≡ true) → found b y (seek test l) ≡ some x → test x ≡ true
    go true i f j = let z : y ≡ x = cc in ap test (sym z) ∙ i
    go false i f j = f j

sought-all : (P : ℕ → Type 0) (test : ℕ → Bool) (l : List ℕ) (x : ℕ) → All P l → seek test l ≡ some x → P x
sought-all P test [] x h e = nowhere e
sought-all P test (y ∷ l) x h e = go (test y) (sought-all P test l x h.1) e
  where
    go : (b : Bool) → (seek test l ≡ some x → P x) → found b y (seek test l) ≡ some x → P x
    go true f i = let z : y ≡ x = cc in subst P z h.0
    go false f i = f i

-- ---- what blocks, and what is left

pub never : {x : ℕ} {l : List ℕ} {B : Type 0} → taken l ≡ blocked x → B
never e = let z : ◌≡◌ {A = ℕ} 0 1 = cc in absurd (omega arith)

pub lost : {x : ℕ} {B : Type 0} → missing ≡ blocked x → B
lost e = let z : ◌≡◌ {A = ℕ} 0 1 = cc in absurd (omega arith)

pub absent : {l : List ℕ} {B : Type 0} → missing ≡ taken l → B
absent e = let z : ◌≡◌ {A = ℕ} 0 1 = cc in absurd (omega arith)

module _ (may wanted : ℕ → Bool) where
  -- What blocks may not be passed and is not what is wanted; and that stands behind it, if anywhere.
  pub record Blocks (b : ℕ) (l : List ℕ) : Type 0 where
    pub stops : may b ≡ false
    pub other : wanted b ≡ false
    pub before : (x : ℕ) → seek wanted l ≡ some x → b < x

  pub blocks : ((q : ℕ) → wanted q ≡ true → may q ≡ false) → (b : ℕ) (l : List ℕ) → Rising l → pull may wanted l ≡ blocked b → Blocks b l
  blocks w b [] r e = lost e
  blocks w b (y ∷ l) r e = go (may y) refl (wanted y) refl (pull may wanted l) (blocks w b l r.1) e
    where
      -- y is not wanted
      past : wanted y ≡ false → ((x : ℕ) → seek wanted l ≡ some x → b < x) → (x : ℕ) → seek wanted (y ∷ l) ≡ some x → b < x
      past n f x i = f x (subst (λ (t : Bool). found t y (seek wanted l) ≡ some x) n i)

      go : (m : Bool) → may y ≡ m → (v : Bool) → wanted y ≡ v → (o : Pulled ℕ) → (o ≡ blocked b → Blocks b l) → met m v y l o ≡ blocked b → Blocks b (y ∷ l)
      go true i true j o f k = absurd (true≢false (sym i ∙ w y j))
      go true i false j (taken g) f k = never k
      go true i false j (blocked z) f k = let u = f k in record { stops = u.stops; other = u.other; before = past j u.before }
      go true i false j missing f k = lost k
      go false i true j o f k = never k
      go false i false j o f k =
          let z : y ≡ b = cc in
          record {
            stops = ap may (sym z) ∙ i;
            other = ap wanted (sym z) ∙ j;
            before = past j (λ x h. subst (λ (q : ℕ). q < x) z (sought-all (λ q. y < q) wanted l x r.0 h));
          }

  left-all : (P : ℕ → Type 0) (l g : List ℕ) → All P l → pull may wanted l ≡ taken g → All P g
  left-all P [] g h e = absent e
  left-all P (y ∷ l) g h e = go (may y) (wanted y) (pull may wanted l) (λ k. left-all P l k h.1) e
    where
      go : (m v : Bool) (o : Pulled ℕ) → ((k : List ℕ) → o ≡ taken k → All P k) → met m v y l o ≡ taken g → All P g
      go true v (taken k) f i = let z : y ∷ k ≡ g = cc in subst (All P) z (h.0, f k refl)
      go true v (blocked x) f i = never (sym i)
      go true v missing f i = absent i
      go false true o f i = let z : l ≡ g = cc in subst (All P) z h.1
      go false false o f i = never (sym i)

  pub left_rising : (l g : List ℕ) → Rising l → pull may wanted l ≡ taken g → Rising g
  left_rising [] g r e = absent e
  left_rising (y ∷ l) g r e = go (may y) (wanted y) (pull may wanted l) refl (λ k. left_rising l k r.1) e
    where
      go : (m v : Bool) (o : Pulled ℕ) → pull may wanted l ≡ o → ((k : List ℕ) → o ≡ taken k → Rising k) → met m v y l o ≡ taken g → Rising g
      go true v (taken k) j f i = let z : y ∷ k ≡ g = cc in subst Rising z (left-all (λ q. y < q) l k r.0 j, f k refl)
      go true v (blocked x) j f i = never (sym i)
      go true v missing j f i = absent i
      go false true o j f i = let z : l ≡ g = cc in subst Rising z r.1
      go false false o j f i = never (sym i)
