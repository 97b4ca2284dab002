-- What is left of the second list, of each sort of record: all but as many as were taken, from the front on. Assumes nothing.
use Rattle.std.specs.Prelude.{◌≡◌, refl, Bool, true, false, List, [], ◌∷◌, map, ℕ, zero, suc, ◌+◌, ◌≤◌, ◌<◌, length, take, drop}
use Rattle.std.proofs.Common.{sym, ap, ap₂, subst, ◌∙◌, true≢false, arith, length-drop, take_all, drop-drop}
use Rattle.std.proofs.Math.Option.{none, some}
use Rattle.rules.specs.Step.{Event}
use Rattle.rules_exchange.specs.Independent.{independent}
use Rattle.any_list.specs.Arrays.{table}
use Rattle.any_list.specs.Tables.{table-length}
use Rattle.merge_verdict.specs.Verdict.{Pulled, taken, blocked, missing, met, pull, same_event}
use Rattle.merge_verdict.specs.Pairs.{kept, only}
use Rattle.merge_verdict.specs.Kept.{not-nil}
use Rattle.merge_verdict.specs.Steps.{same-eq, same_refl, independent-self}
use Rattle.merge_letters.specs.Letters.{bit}
use Rattle.any_search.specs.Places.{from, found, seek}
use Rattle.merge_compare.specs.Compare.{free, equal}
use Rattle.merge_compare.specs.Left.{nowhere}
use Rattle.merge_assured.specs.Assured.{times}
use Rattle.merge_assured.specs.Times.{times-next, same-sym}
use Rattle.merge_assured.specs.Meaning.{all-places}
use Rattle.merge_assured.specs.Blocked.{never, lost, absent}

-- ---- the first of a sort

module _ (test : ℕ → Bool) where
  -- What a search finds is the first of all that pass.
  record Heads (x : ℕ) (l : List ℕ) : Type 0 where
    behind : List ℕ
    heads : only test l ≡ x ∷ behind

  sought-heads : (l : List ℕ) (x : ℕ) → seek test l ≡ some x → Heads x l
  sought-heads [] x e = nowhere e
  sought-heads (y ∷ l) x e = go (test y) refl (sought-heads l x) e
    where
      go : (b : Bool) → test y ≡ b → (seek test l ≡ some x → Heads x l) → found b y (seek test l) ≡ some x → Heads x (y ∷ l)
      go true i f j = let z : y ≡ x = cc in record { behind = only test l; heads = rw (i, z) }
      go false i f j = let u = f j in record { behind = u.behind; heads = rw i u.heads }

  sought-none : (l : List ℕ) → seek test l ≡ none → only test l ≡ []
  sought-none [] e = refl
  sought-none (y ∷ l) e = go (test y) (sought-none l) e
    where
      go : (b : Bool) → (seek test l ≡ none → only test l ≡ []) → found b y (seek test l) ≡ none → kept b y (only test l) ≡ []
      go true f j = nowhere (sym j)
      go false f j = f j

  -- Behind the first k that pass stands x.
  record Index (a n k x : ℕ) : Type 0 where
    index : ℕ
    is : x ≡ a + index
    inside : index < n
    count : length (only test (take index (from a n))) ≡ k

  index_of : (n a k x : ℕ) (behind : List ℕ) → drop k (only test (from a n)) ≡ x ∷ behind → Index a n k x
  index_of zero a zero x behind e = not-nil e
  index_of zero a (suc k) x behind e = not-nil e
  index_of (suc n) a k x behind e = go (test a) refl k (λ k e. index_of n (suc a) k x behind e) e
    where
      further : (k : ℕ) (b : Bool) → test a ≡ b → Index (suc a) n k x → Index a (suc n) (bit b + k) x
      further k b i u = record {
        index = suc u.index;
        is = let z = u.is in omega arith;
        inside = let z = u.inside in omega arith;
        count = rw i (longer b ∙ ap (λ (c : ℕ). bit b + c) u.count);
      }
        where
          longer : (b : Bool) → length (kept b a (only test (take u.index (from (suc a) n)))) ≡ bit b + length (only test (take u.index (from (suc a) n)))
          longer true = omega arith
          longer false = omega arith

      go : (b : Bool) → test a ≡ b → (k : ℕ) → ((k : ℕ) → drop k (only test (from (suc a) n)) ≡ x ∷ behind → Index (suc a) n k x)
          → drop k (kept b a (only test (from (suc a) n))) ≡ x ∷ behind → Index a (suc n) k x
      go true i zero f e = let z : a ≡ x = cc in record { index = 0; is = omega arith; inside = omega arith; count = refl }
      go true i (suc k) f e = subst (λ (c : ℕ). Index a (suc n) c x) (omega arith) (further k true i (f k e))
      go false i k f e = subst (λ (c : ℕ). Index a (suc n) c x) (omega arith) (further k false i (f k e))

-- ---- the comparison

module _ (count : ℕ) (here there : ℕ → Event) where
  pub alike : (a b : ℕ) → equal count here there a b ≡ true → here a ≡ there b
  alike a b e = same-eq (here a) (there b) (rw e tt)

  pub own : (a q : ℕ) → equal count here there a q ≡ true → free count here there a q ≡ false
  own a q e = ap (independent count (here a)) (sym (alike a q e)) ∙ independent-self count (here a)

  -- The places of the second list at which e stands.
  abbrev pub sort : Event → ℕ → Bool
  sort e y = same_event e (there y)

  module _ (p : ℕ) where
    abbrev pub looking : List ℕ → Pulled ℕ
    looking l = pull (free count here there p) (equal count here there p) l

    -- Record p is taken: the first of its sort is gone, and all else is left.
    taken-left : (e : Event) (l g : List ℕ) → looking l ≡ taken g → only (sort e) g ≡ drop (bit (same_event e (here p))) (only (sort e) l)
    taken-left e [] g i = absent i
    taken-left e (x ∷ l) g i = go (free count here there p x) refl (equal count here there p x) refl (looking l) (taken-left e l) i
      where
        -- x may be passed, so that it is not of p's sort
        passed : free count here there p x ≡ true → (d b : Bool) → same_event e (here p) ≡ d → sort e x ≡ b → (k : List ℕ) → kept b x (drop (bit d) k) ≡ drop (bit d) (kept b x k)
        passed i false b j k l = refl
        passed i true false j k l = refl
        passed i true true j k l =
            let same = sym (same-eq e (here p) (rw j tt)) ∙ same-eq e (there x) (rw k tt) in
            absurd (true≢false (sym i ∙ ap (independent count (here p)) (sym same) ∙ independent-self count (here p)))

        off : (b : Bool) (k : List ℕ) → k ≡ drop (bit b) (kept b x k)
        off true k = refl
        off false k = refl

        go : (a : Bool) → free count here there p x ≡ a → (b : Bool) → equal count here there p x ≡ b → (o : Pulled ℕ)
            → ((k : List ℕ) → o ≡ taken k → only (sort e) k ≡ drop (bit (same_event e (here p))) (only (sort e) l))
            → met a b x l o ≡ taken g → only (sort e) g ≡ drop (bit (same_event e (here p))) (only (sort e) (x ∷ l))
        go true a b j (taken k) f i =
            let z : x ∷ k ≡ g = cc in
            ap (only (sort e)) (sym z) ∙ ap (kept (sort e x) x) (f k refl) ∙ passed a (same_event e (here p)) (sort e x) refl refl (only (sort e) l)
        go true a b j (blocked y) f i = never (sym i)
        go true a b j missing f i = absent i
        go false a true j o f i =
            let z : l ≡ g = cc in
            ap (only (sort e)) (sym z) ∙ off (sort e x) (only (sort e) l) ∙ ap (λ (y : Event). drop (bit (same_event e y)) (only (sort e) (x ∷ l))) (sym (alike p x j))
        go false a false j o f i = never (sym i)

    -- What blocks p is the first of its own sort.
    pub first-left : (s : ℕ) → free count here there p s ≡ false → (l : List ℕ) → looking l ≡ blocked s → seek (sort (there s)) l ≡ some s
    first-left s h [] i = lost i
    first-left s h (x ∷ l) i = go (free count here there p x) refl (equal count here there p x) (looking l) (first-left s h l) i
      where
        other : free count here there p x ≡ true → (b : Bool) → sort (there s) x ≡ b → b ≡ false
        other a true j = absurd (true≢false (sym a ∙ ap (independent count (here p)) (sym (same-eq (there s) (there x) (rw j tt))) ∙ h))
        other a false j = refl

        go : (a : Bool) → free count here there p x ≡ a → (b : Bool) (o : Pulled ℕ) → (o ≡ blocked s → seek (sort (there s)) l ≡ some s) → met a b x l o ≡ blocked s
            → seek (sort (there s)) (x ∷ l) ≡ some s
        go true a b (taken k) f i = never i
        go true a b (blocked y) f i = ap (λ (c : Bool). found c x (seek (sort (there s)) l)) (other a (sort (there s) x) refl) ∙ f i
        go true a b missing f i = lost i
        go false a true o f i = never i
        go false a false o f i =
            let z : x ≡ s = cc in
            ap (λ (c : Bool). found c x (seek (sort (there s)) l)) (ap (λ (y : ℕ). sort (there s) y) z ∙ same_refl (there s)) ∙ ap some z

    -- Where p is not there, no other of its sort is.
    pub none_left : (l : List ℕ) → looking l ≡ missing → seek (equal count here there p) l ≡ none
    none_left [] i = refl
    none_left (x ∷ l) i = go (free count here there p x) refl (equal count here there p x) refl (looking l) (none_left l) i
      where
        go : (a : Bool) → free count here there p x ≡ a → (b : Bool) → equal count here there p x ≡ b → (o : Pulled ℕ) → (o ≡ missing → seek (equal count here there p) l ≡ none)
            → met a b x l o ≡ missing → found (equal count here there p x) x (seek (equal count here there p) l) ≡ none
        go true k true j o f i = absurd (true≢false (sym k ∙ own p x j))
        go true k false j (taken g) f i = absent (sym i)
        go true k false j (blocked y) f i = lost (sym i)
        go true k false j missing f i = ap (λ (c : Bool). found c x (seek (equal count here there p) l)) j ∙ f refl
        go false k true j o f i = absent (sym i)
        go false k false j o f i = lost (sym i)

  -- ---- n records with m

  times-places : (e : Event) (l : List ℕ) → times e (map there l) ≡ length (only (sort e) l)
  times-places e [] = refl
  times-places e (x ∷ l) = go (sort e x) (times-places e l)
    where
      go : (b : Bool) → times e (map there l) ≡ length (only (sort e) l) → length (kept b (there x) (only (same_event e) (map there l))) ≡ length (kept b x (only (sort e) l))
      go true h = ap suc h
      go false h = h

  map-take : (i : ℕ) (l : List ℕ) → take i (map there l) ≡ map there (take i l)
  map-take zero l = refl
  map-take (suc i) [] = refl
  map-take (suc i) (x ∷ l) = ap (λ (k : List Event). there x ∷ k) (map-take i l)

  module _ (n m : ℕ) where
    -- The first a records were taken: of each sort as many are gone, from the front on.
    abbrev pub Left : ℕ → List ℕ → Type 0
    Left a qs = (e : Event) → only (sort e) qs ≡ drop (times e (take a (table n here))) (only (sort e) (from 0 m))

    pub left-next : (a : ℕ) (qs rest : List ℕ) → a < n → Left a qs → looking a qs ≡ taken rest → Left (suc a) rest
    left-next a qs rest h left i e =
        let gone = times e (take a (table n here)) in
        let more : gone + bit (same_event e (here a)) ≡ times e (take (suc a) (table n here)) = (let z = times-next e n here a h in omega arith) in
        taken-left a e qs rest i
        ∙ ap (drop (bit (same_event e (here a)))) (left e)
        ∙ drop-drop (bit (same_event e (here a))) gone (only (sort e) (from 0 m))
        ∙ ap (λ (k : ℕ). drop k (only (sort e) (from 0 m))) more

    -- The first of a sort that is left.
    pub next-left : (a : ℕ) (qs : List ℕ) → Left a qs → (e : Event) (x : ℕ) → seek (sort e) qs ≡ some x → (x < m) × (times e (take a (table n here)) ≡ times e (take x (table m there)))
    next-left a qs left e x i =
        let u = sought-heads (sort e) qs x i in
        let v = index_of (sort e) m 0 (times e (take a (table n here))) x u.behind (sym (left e) ∙ u.heads) in
        let same : v.index ≡ x = (let z = v.is in omega arith) in (
          (let z = v.inside in omega arith),
          sym v.count ∙ sym (ap (times e) (map-take v.index (from 0 m)) ∙ times-places e (take v.index (from 0 m))) ∙ ap₂ (λ (k : ℕ) (l : List Event). times e (take k l)) same (all-places there m),
        )

    -- The first from a on that is the record at s.
    abbrev pub Ahead : ℕ → ℕ → ℕ → Type 0
    Ahead s a f = (a ≤ f) × (f < n) × (times (there s) (take a (table n here)) ≡ times (there s) (take f (table n here)))

    pub next-ahead : (s k a f : ℕ) → a + k ≡ n → seek (λ x. equal count here there x s) (from a k) ≡ some f → Ahead s a f
    next-ahead s zero a f h i = nowhere i
    next-ahead s (suc k) a f h i = go (equal count here there a s) refl (next-ahead s k (suc a) f (omega arith)) i
      where
        go : (b : Bool) → equal count here there a s ≡ b → (seek (λ x. equal count here there x s) (from (suc a) k) ≡ some f → Ahead s (suc a) f)
            → found b a (seek (λ x. equal count here there x s) (from (suc a) k)) ≡ some f → Ahead s a f
        go true j g i = let z : a ≡ f = cc in (omega arith, omega arith, ap (λ (c : ℕ). times (there s) (take c (table n here))) z)
        go false j g i =
            let u = g i in
            let v = times-next (there s) n here a (omega arith) in
            let w = ap bit (same-sym (here a) (there s) j) in
            ((let z = u.0 in omega arith), u.1, (let z = u.2 in omega arith))

    -- Nothing of a sort is left: the second list has no more of it than were taken.
    pub gone : (a : ℕ) (qs : List ℕ) → Left a qs → (e : Event) → seek (sort e) qs ≡ none → times e (table m there) ≤ times e (take a (table n here))
    gone a qs left e i =
        let k = times e (take a (table n here)) in
        let l = only (sort e) (from 0 m) in
        let rest = sym (length-drop k l) ∙ ap length (sym (left e) ∙ sought-none (sort e) qs i) in
        let all = sym (ap (times e) (all-places there m)) ∙ times-places e (from 0 m) in
        omega arith

    -- Nothing from a on is the record at s.
    pub none_ahead : (s k a : ℕ) → a + k ≡ n → seek (λ x. equal count here there x s) (from a k) ≡ none → times (there s) (table n here) ≡ times (there s) (take a (table n here))
    none_ahead s zero a h i =
        ap (times (there s)) (sym (take_all a (table n here) (let z = table-length n here in omega arith)))
    none_ahead s (suc k) a h i = go (equal count here there a s) refl (none_ahead s k (suc a) (omega arith)) i
      where
        go : (b : Bool) → equal count here there a s ≡ b
            → (seek (λ x. equal count here there x s) (from (suc a) k) ≡ none → times (there s) (table n here) ≡ times (there s) (take (suc a) (table n here)))
            → found b a (seek (λ x. equal count here there x s) (from (suc a) k)) ≡ none → times (there s) (table n here) ≡ times (there s) (take a (table n here))
        go true j g i = nowhere (sym i)
        go false j g i =
            let u = g i in
            let v = times-next (there s) n here a (omega arith) in
            let w = ap bit (same-sym (here a) (there s) j) in
            omega arith
