-- A list without one of its elements, place by place. Assumes nothing.
use Rattle.std.specs.Prelude.{◌≡◌, refl, Bool, true, false, cond, List, [], ◌∷◌, ◌++◌, ℕ, zero, suc, ◌+◌, ◌<◌, ◌≤◌, eqb, ltb, length, get_or, set, take}
use Rattle.std.proofs.Common.{sym, ap, ◌∙◌, arith, add-one, length-take-le, take-suc, eq-eqb, ne_eqb, lt-ltb, le-ltb}
use Rattle.std.proofs.Math.Decide.{ℕ_discrete, dec_lt}
use Rattle.rules.specs.Limits.{most_backups}
use Rattle.rules.specs.Queues.{push, has, remove, before}
use Rattle.any_list.specs.Arrays.{padded}
use Rattle.any_list.specs.Padded.{padded-push}
use Rattle.step_parts.specs.Hold.{as_is}
use Rattle.step_service.specs.Asks.{skipping}

pub removed-length : (n : ℕ) (l : List ℕ) → has n l ≡ true → suc (length (remove n l)) ≡ length l
unfolding has remove
removed-length n [] h = let z : ◌≡◌ {A = ℕ} 0 1 = cc in absurd (omega arith)
removed-length n (x ∷ l) h = go (ℕ_discrete n x) (removed-length n l)
  where
    go : Dec (n ≡ x) → (has n l ≡ true → suc (length (remove n l)) ≡ length l) → suc (length (cond (eqb n x) l (x ∷ remove n l))) ≡ suc (length l)
    go (yes e) k = simp (eq-eqb n x e)
    go (no z) k = simp (ne_eqb n x z) (ap suc (k (simp (ne_eqb n x z) at h)))

skip-suc : (i gone : ℕ) → skipping (suc i) (suc gone) ≡ suc (skipping i gone)
skip-suc i gone = go (dec_lt i gone)
  where
    go : Dec (i < gone) → skipping (suc i) (suc gone) ≡ suc (skipping i gone)
    go (yes h) = simp (lt-ltb i gone h, lt-ltb (suc i) (suc gone) (omega arith))
    go (no h) = simp (le-ltb i gone (omega arith), le-ltb (suc i) (suc gone) (omega arith)) (omega arith)

pub removed-at : (n : ℕ) (l : List ℕ) (i : ℕ) → get_or (remove n l) i 0 ≡ get_or l (skipping i (before n l)) 0
unfolding remove before
removed-at n [] i = refl
removed-at n (x ∷ l) i = go (ℕ_discrete n x) (removed-at n l) i
  where
    go : Dec (n ≡ x) → ((i : ℕ) → get_or (remove n l) i 0 ≡ get_or l (skipping i (before n l)) 0) → (i : ℕ) → get_or (cond (eqb n x) l (x ∷ remove n l)) i 0 ≡ get_or (x ∷ l) (skipping i (cond (eqb n x) 0 (suc (before n l)))) 0
    go (yes e) k i = simp (eq-eqb n x e, le-ltb i 0 (omega arith), add-one)
    go (no z) k zero = simp (ne_eqb n x z, lt-ltb 0 (suc (before n l)) (omega arith))
    go (no z) k (suc i) = simp (ne_eqb n x z) (k i ∙ ap (λ (j : ℕ). get_or (x ∷ l) j 0) (sym (skip-suc i (before n l))))

pub skip_below : (i gone : ℕ) → skipping i gone ≤ i + 1
skip_below i gone = go (ltb i gone)
  where
    go : (b : Bool) → cond b i (i + 1) ≤ i + 1
    go true = omega arith
    go false = omega arith

-- one more of the list goes to the place behind those that are there
pub padded-more : (l : List ℕ) (i : ℕ) (places : List ℕ) (x : ℕ) → places ≡ padded 0 as_is most_backups (take i l) → i < length l → i < most_backups → x ≡ get_or l i 0 → set places i x ≡ padded 0 as_is most_backups (take (i + 1) l)
unfolding push
padded-more l i places x e h k f =
    let n : length (take i l) ≡ i = length-take-le i l (omega arith) in
    ap (λ (p : List ℕ). set p i x) e ∙ ap (λ (j : ℕ). set (padded 0 as_is most_backups (take i l)) j x) (sym n) ∙ padded-push 0 as_is most_backups (take i l) x (omega arith)
    ∙ ap (padded 0 as_is most_backups) (ap (λ (y : ℕ). take i l ++ (y ∷ [])) f ∙ sym (take-suc l i 0 h) ∙ ap (λ (j : ℕ). take j l) (sym (add-one i)))
