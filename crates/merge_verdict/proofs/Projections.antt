-- The merge verdict says the same as: each two dependent steps have the same occurrences in the same order in both lists. Assumes nothing.
use Rattle.std.specs.Prelude.{◌≡◌, refl, Bool, true, false, ◌||◌, List, [], ◌∷◌, ℕ, zero, suc, T}
use Rattle.std.proofs.Common.{sym, ap, ◌∙◌, subst}
use Rattle.rules_exchange.specs.Independent.{independent}
use Rattle.rules_exchange.specs.Listed.{either}
use Rattle.rules_exchange.specs.Claim.{swap_at, swaps, Neighbours, Allowed}
use Rattle.merge_verdict.specs.Verdict.{Exchanges, taken, behind, pull, exchangeable, same_event, same_merge}
use Rattle.merge_verdict.specs.Pairs.{kept, only, ByPairs}
use Rattle.merge_verdict.specs.Kept.{not-nil, kept_same, kept-swap}
use Rattle.merge_verdict.specs.Steps.{same-eq, same_refl, independent-sym, independent-self}
use Rattle.merge_verdict.proofs.Exact.{sound}

module _ {E : Type 0} (free same : E → E → Bool) (same-eq : (x y : E) → T (same x y) → x ≡ y) (same_refl : (x : E) → same x x ≡ true)
    (free-sym : (x y : E) → free x y ≡ free y x) (free-self : (x : E) → free x x ≡ false) where
  abbrev pair : E → E → E → Bool
  pair a b x = same a x || same b x

  -- Of two free events a dependent pair has at most one.
  not-both : (a b x y : E) → free a b ≡ false → T (free x y) → T (pair a b x) → T (pair a b y) → ⊥
  not-both a b x y h f p q =
      either (same a x) (same b x)
      (λ s. either (same a y) (same b y) (λ t. clash a a (free-self a) s t) (λ t. clash a b h s t) q)
      (λ s. either (same a y) (same b y) (λ t. clash b a (free-sym b a ∙ h) s t) (λ t. clash b b (free-self b) s t) q)
      p
    where
      clash : (u v : E) → free u v ≡ false → T (same u x) → T (same v y) → ⊥
      clash u v i s t = subst T (ap (λ z. free z y) (sym (same-eq u x s)) ∙ ap (free u) (sym (same-eq v y t)) ∙ i) f

  one_only : (a b : E) → free a b ≡ false → (i : ℕ) (l : List E) → Neighbours (λ x y. T (free x y)) i l → only (pair a b) (swap_at i l) ≡ only (pair a b) l
  one_only a b h i [] n = absurd n
  one_only a b h zero (x ∷ []) n = absurd n
  one_only a b h zero (x ∷ y ∷ l) n = sym (kept-swap (pair a b x) (pair a b y) x y (only (pair a b) l) (not-both a b x y h n))
  one_only a b h (suc i) (x ∷ l) n = ap (kept (pair a b x) x) (one_only a b h i l n)

  all-only : (a b : E) → free a b ≡ false → (is : List ℕ) (l : List E) → Allowed (λ x y. T (free x y)) is l → only (pair a b) (swaps is l) ≡ only (pair a b) l
  all-only a b h [] l n = refl
  all-only a b h (i ∷ is) l n = all-only a b h is (swap_at i l) n.1 ∙ one_only a b h i l n.0

  pub pairs-kept : (es fs : List E) → Exchanges (λ x y. T (free x y)) es fs → (a b : E) → free a b ≡ false → only (pair a b) es ≡ only (pair a b) fs
  pairs-kept es fs p a b h = sym (all-only a b h p.places es p.allowed) ∙ ap (only (pair a b)) p.ends

  -- ---- the other way: what stands first, of itself and of all that depends on it, can be taken

  record Took (e : E) (l : List E) : Type 0 where
    left : List E
    takes : pull (free e) (same e) l ≡ taken left
    pairs : (a b : E) → free a b ≡ false → only (pair a b) l ≡ kept (pair a b e) e (only (pair a b) left)

  record First (e b : E) (l : List E) : Type 0 where
    tail : List E
    heads : only (pair e b) l ≡ e ∷ tail

  take-first : (e : E) (l : List E) → ((b : E) → free e b ≡ false → First e b l) → Took e l
  take-first e [] h = not-nil (h e (free-self e)).heads
  take-first e (x ∷ l) h = go (free e x) refl (same e x) refl (take-first e l)
    where
      -- x is passed: it is neither e nor a step that e depends on
      passed : free e x ≡ true → (b : E) → free e b ≡ false → (c d : Bool) → same e x ≡ c → same b x ≡ d → First e b l
      passed i b k true d m n = absurd (subst T (sym i ∙ ap (free e) (sym (same-eq e x (rw m tt))) ∙ free-self e) tt)
      passed i b k false true m n = absurd (subst T (sym i ∙ ap (free e) (sym (same-eq b x (rw n tt))) ∙ k) tt)
      passed i b k false false m n = let u = h b k in record { tail = u.tail; heads = rw (m, n) at u.heads }

      go : (p : Bool) → free e x ≡ p → (q : Bool) → same e x ≡ q → (((b : E) → free e b ≡ false → First e b l) → Took e l) → Took e (x ∷ l)
      go true i q j ih =
          let t = ih λ b k. passed i b k (same e x) (same b x) refl refl in
          record {
            left = x ∷ t.left;
            takes = rw i (ap (behind x) t.takes);
            pairs = λ a b k. ap (kept (pair a b x) x) (t.pairs a b k)
                ∙ kept-swap (pair a b x) (pair a b e) x e (only (pair a b) t.left) (not-both a b x e k (rw (free-sym x e, i) tt));
          }
      go false i true j ih = record {
        left = l;
        takes = rw (i, j);
        pairs = λ a b k. ap (λ z. kept (pair a b z) z (only (pair a b) l)) (sym (same-eq e x (rw j tt)));
      }
      go false i false j ih =
          let u = h x i in
          let v : x ∷ only (pair e x) l ≡ e ∷ u.tail = rw (j, same_refl x) at u.heads in
          let w : x ≡ e = cc in
          absurd (subst T (sym (same_refl x) ∙ ap (λ z. same z x) w ∙ j) tt)

  pub by-pairs : (es fs : List E) → ((a b : E) → free a b ≡ false → only (pair a b) es ≡ only (pair a b) fs) → T (exchangeable free same es fs)
  by-pairs [] [] h = tt
  by-pairs [] (f ∷ fs) h = not-nil (rw (same_refl f) at (h f f (free-self f)))
  by-pairs (e ∷ es) fs h =
      let t = take-first e fs (λ b k. record { tail = only (pair e b) es; heads = sym (h e b k) ∙ ap (λ z. kept (z || same b e) e (only (pair e b) es)) (same_refl e) }) in
      rw t.takes (by-pairs es t.left λ a b k. kept_same (pair a b e) e (only (pair a b) es) (only (pair a b) t.left) (h a b k ∙ t.pairs a b k))

-- ---- for steps

pub verdict-by-pairs : ByPairs
unfolding same_merge
verdict-by-pairs count es fs = (
  λ t. pairs-kept (independent count) same_event same-eq same_refl (independent-sym count) (independent-self count) es fs (sound (independent count) same_event same-eq es fs t),
  by-pairs (independent count) same_event same-eq same_refl (independent-sym count) (independent-self count) es fs,
)
