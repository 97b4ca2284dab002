-- How often a record occurs: in a list, in its front, and before the next place. Assumes nothing.
use Rattle.std.specs.Prelude.{◌≡◌, refl, Bool, true, false, List, [], ◌∷◌, ℕ, zero, suc, ◌+◌, ◌≤◌, ◌<◌, length, take}
use Rattle.std.proofs.Common.{sym, ap, ◌∙◌, true≢false, le_of_suc-le-suc, arith}
use Rattle.rules.specs.Step.{Event}
use Rattle.any_list.specs.Arrays.{table}
use Rattle.merge_verdict.specs.Verdict.{same_event}
use Rattle.merge_verdict.specs.Pairs.{kept, only}
use Rattle.merge_verdict.specs.Steps.{same-eq, same_refl}
use Rattle.merge_letters.specs.Letters.{bit}
use Rattle.merge_assured.specs.Assured.{times}

pub times_more : (e x : Event) (l : List Event) → times e (x ∷ l) ≡ bit (same_event e x) + times e l
times_more e x l = go (same_event e x)
  where
    go : (b : Bool) → length (kept b x (only (same_event e) l)) ≡ bit b + length (only (same_event e) l)
    go true = omega arith
    go false = omega arith

pub times-head : (e : Event) (l : List Event) → times e (e ∷ l) ≡ 1 + times e l
times-head e l = times_more e e l ∙ ap (λ (b : Bool). bit b + times e l) (same_refl e)

pub same-sym : (e f : Event) → same_event e f ≡ false → same_event f e ≡ false
same-sym e f h = go (same_event f e) refl
  where
    go : (b : Bool) → same_event f e ≡ b → same_event f e ≡ false
    go true i = absurd (true≢false (sym (same_refl e) ∙ ap (same_event e) (sym (same-eq f e (rw i tt))) ∙ h))
    go false i = i

-- ---- before a place

-- One place further.
pub times-next : (e : Event) (n : ℕ) (f : ℕ → Event) (a : ℕ) → a < n → times e (take (suc a) (table n f)) ≡ bit (same_event e (f a)) + times e (take a (table n f))
times-next e zero f a h = absurd (omega arith)
times-next e (suc n) f zero h = times_more e (f 0) []
times-next e (suc n) f (suc a) h =
    let u = times_more e (f 0) (take (suc a) (table n (λ i. f (suc i)))) in
    let v = times_more e (f 0) (take a (table n (λ i. f (suc i)))) in
    let w = times-next e n (λ i. f (suc i)) a (le_of_suc-le-suc h) in
    omega arith

-- Not fewer further on.
pub times-grow : (e : Event) (l : List Event) (a b : ℕ) → a ≤ b → times e (take a l) ≤ times e (take b l)
times-grow e l zero b h = omega arith
times-grow e [] (suc a) b h = omega arith
times-grow e (x ∷ l) (suc a) zero h = absurd (omega arith)
times-grow e (x ∷ l) (suc a) (suc b) h =
    let u = times_more e x (take a l) in
    let v = times_more e x (take b l) in
    let w = times-grow e l a b (le_of_suc-le-suc h) in
    omega arith

-- More behind a place at which the record stands.
pub times-passed : (n : ℕ) (f : ℕ → Event) (a b : ℕ) → a < b → b ≤ n → times (f a) (take a (table n f)) < times (f a) (take b (table n f))
times-passed n f a b h k =
    let u = times-next (f a) n f a (omega arith) in
    let v = ap bit (same_refl (f a)) in
    let w = times-grow (f a) (table n f) (suc a) b h in
    omega arith
