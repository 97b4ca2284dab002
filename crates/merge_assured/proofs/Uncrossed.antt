-- Lists that are the same have no two dependent records in the other order. Assumes nothing.
use Rattle.std.specs.Prelude.{◌≡◌, refl, Bool, true, false, ◌||◌, List, [], ◌∷◌, ℕ, zero, suc, ◌+◌, ◌<◌, take}
use Rattle.std.proofs.Common.{sym, ap, ◌∙◌, le_of_suc-le-suc, arith}
use Rattle.rules.specs.Step.{Event}
use Rattle.any_list.specs.Arrays.{table}
use Rattle.run_lists.specs.EventList.{node_count, record_count, record_at, records}
use Rattle.merge_verdict.specs.Verdict.{same_event}
use Rattle.merge_verdict.specs.Pairs.{kept, only_pair}
use Rattle.merge_verdict.specs.Steps.{same_refl}
use Rattle.merge_verdict.proofs.Exact.{exact}
use Rattle.merge_verdict.proofs.Projections.{verdict-by-pairs}
use Rattle.merge_letters.specs.Letters.{bit}
use Rattle.merge_assured.specs.Assured.{times, SameUncrossed}
use Rattle.merge_assured.specs.Times.{times_more, times-grow, times-passed}
use Rattle.merge_assured.proofs.Meaning.{same-means}

module _ (x y : Event) where
  -- How many x come before the y that has k others before it: this one is y or not, is x or not; and how many come behind it.
  abbrev counted : Bool → Bool → ℕ → (ℕ → ℕ) → ℕ
  counted true b zero next = 0
  counted true b (suc k) next = bit b + next k
  counted false b k next = bit b + next k

  abbrev ahead : List Event → ℕ → ℕ
  ahead [] k = 0
  ahead (z ∷ l) k = counted (same_event y z) (same_event x z) k (ahead l)

  -- Only x and y count.
  ahead-pair : (l : List Event) (k : ℕ) → ahead (only_pair x y l) k ≡ ahead l k
  ahead-pair [] k = refl
  ahead-pair (z ∷ l) k = go (same_event x z) refl (same_event y z) refl k (ahead-pair l)
    where
      go : (b : Bool) → same_event x z ≡ b → (c : Bool) → same_event y z ≡ c → (k : ℕ) → ((k : ℕ) → ahead (only_pair x y l) k ≡ ahead l k)
          → ahead (kept (b || c) z (only_pair x y l)) k ≡ counted c b k (ahead l)
      go true i true j zero f = rw (i, j)
      go true i true j (suc k) f = rw (i, j) (ap (λ (a : ℕ). 1 + a) (f k))
      go true i false j k f = rw (i, j) (ap (λ (a : ℕ). 1 + a) (f k))
      go false i true j zero f = rw (i, j)
      go false i true j (suc k) f = rw (i, j) (ap (λ (a : ℕ). 0 + a) (f k))
      go false i false j k f = f k ∙ omega arith

  -- Before a y: as many as are counted.
  ahead-at : (n : ℕ) (f : ℕ → Event) (b : ℕ) → b < n → f b ≡ y → ahead (table n f) (times y (take b (table n f))) ≡ times x (take b (table n f))
  ahead-at zero f b h e = absurd (omega arith)
  ahead-at (suc n) f zero h e = ap (λ (c : Bool). counted c (same_event x (f 0)) 0 (ahead (table n (λ i. f (suc i))))) (ap (same_event y) e ∙ same_refl y)
  ahead-at (suc n) f (suc b) h e =
      go (same_event y (f 0)) refl (take b (table n (λ i. f (suc i)))) (ahead (table n (λ i. f (suc i)))) (ahead-at n (λ i. f (suc i)) b (le_of_suc-le-suc h) e)
    where
      go : (c : Bool) → same_event y (f 0) ≡ c → (l : List Event) (next : ℕ → ℕ) → next (times y l) ≡ times x l → counted c (same_event x (f 0)) (times y (f 0 ∷ l)) next ≡ times x (f 0 ∷ l)
      go true i l next u = rw i (ap (λ (a : ℕ). bit (same_event x (f 0)) + a) u ∙ sym (times_more x (f 0) l))
      go false i l next u = rw i (ap (λ (a : ℕ). bit (same_event x (f 0)) + a) u ∙ sym (times_more x (f 0) l))

pub same-uncrossed : SameUncrossed
same-uncrossed first second a b a' b' e c =
    let m = (same-means first second).0 e in
    let r = m.remerged in
    let x = record_at first a in
    let y = record_at first b in
    let p = c.stands-a in
    let q = c.stands_b in
    let pair = (verdict-by-pairs (node_count first) (records first) (records second)).0
    ((exact (node_count first) (records first) (records second)).1 (record { places = m.places; allowed = r.allowed; ends = sym r.exchanged })) x y c.dependent in
    -- as many x before the one y as before the other
    let one = ahead-at x y (record_count first) (record_at first) b q.in-first refl in
    let other = ahead-at x y (record_count second) (record_at second) b' q.in-second (sym q.alike) in
    let same : times x (take b (records first)) ≡ times x (take b' (records second)) =
    sym one ∙ sym (ahead-pair x y (records first) _) ∙ ap (λ (l : List Event). ahead x y l (times y (take b (records first)))) pair ∙ ahead-pair x y (records second) _
    ∙ ap (ahead x y (records second)) (q.occurs ∙ ap (λ (z : Event). times z (take b' (records second))) (sym q.alike)) ∙ other in
    let more = times-passed (record_count first) (record_at first) a b c.before (let z = q.in-first in omega arith) in
    let less = times-grow x (records second) b' a' (let z = c.behind in omega arith) in
    let at = p.occurs ∙ ap (λ (z : Event). times z (take a' (records second))) (sym p.alike) in
    omega arith
