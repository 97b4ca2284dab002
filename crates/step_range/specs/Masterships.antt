-- The tests of masterships say what the rules' test of range and the blanks of the structs say. Assumes nothing.
use Rattle.std.specs.Prelude.{◌≡◌, refl, ◌≢◌, Bool, true, false, not, cond, ◌&&◌, List, [], ◌∷◌, ℕ, ◌+◌, ◌≤◌, ◌<◌, leb, ltb, length, take, drop}
use Rattle.std.proofs.Common.{sym, ap, subst, ◌∙◌, lt-ltb, le-ltb, eq-eqb, ne_eqb}
use native.Mathlib.Omega.{arith}
use Rattle.std.proofs.Math.Decide.{dec_lt, ℕ_discrete}
use Rattle.std.proofs.Math.Dec.{T, eqb}
use Rattle.std.proofs.Math.ListN.{get_or}
use Rattle.std.proofs.Math.Seq.{length-take-le, get_or-take}
use Rattle.rules.specs.Limits.{most_backups, top_term}
use Rattle.rules.specs.Queues.{empty, before}
use Rattle.rules.specs.Ids.{place_of}
use Rattle.rules.specs.Range.{within, backup_fits, mastership_fits, service_fits, learned_fits}
use Rattle.rules_laws.specs.All.{All}
use Rattle.rules_laws.specs.InRange.{Distinct, Within}
use Rattle.rules_laws.specs.Tests.{Is, is-map, ◌&◌, as-is, is_le, is_eq, is_ne, is_within, is-empty, is_all, is-each, is-distinct}
use Rattle.rules_laws.specs.Lists.{all-each}
use Rattle.step_parts.specs.Hold.{hold_mastership}
use Rattle.step_parts.specs.declared.Mastership.{Mastership}
use Rattle.step_state.specs.Tidy.{is_zero, blank_mastership, tidy_mastership}
use Rattle.step_bridge.specs.Sized.{SizedMastership}
use Rattle.step_bridge.specs.Rows.{taken_at, dropped-at}
use Rattle.step_range_queues.specs.Tests.{backup_at, backup_place, backups_test, blank_test, event_test, service_test, learned_test}
use Rattle.step_range.specs.Places.{all-taken, all-dropped}
use Rattle.step_range.specs.First.{ids-first, first-ids, ids-of, distinct_of}

-- ---- backups

-- A backup in use stands at its own place: it is not the master, and no backup before it.
is-own-place : (m : Mastership) (b i : ℕ) → Is (eqb (place_of b (hold_mastership m)) (i + 1)) ((b ≢ m.master) × (before b (take m.len m.backups) ≡ i))
unfolding place_of
is-own-place m b i = is-map (λ e. there e (ℕ_discrete m.master b)) back (is_eq (place_of b (hold_mastership m)) (i + 1))
  where
    there : place_of b (hold_mastership m) ≡ i + 1 → Dec (m.master ≡ b) → (b ≢ m.master) × (before b (take m.len m.backups) ≡ i)
    there e (yes o) = let z : 0 ≡ i + 1 = rw (eq-eqb m.master b o) at e in absurd (omega arith)
    there e (no o) = ((λ q. o (sym q)), (let z : before b (take m.len m.backups) + 1 ≡ i + 1 = rw (ne_eqb m.master b o) at e in omega arith))

    back : (b ≢ m.master) × (before b (take m.len m.backups) ≡ i) → place_of b (hold_mastership m) ≡ i + 1
    back h = rw (ne_eqb m.master b (λ q. h.0 (sym q))) (let z = h.1 in omega arith)

pub record Backups (n : ℕ) (m : Mastership) : Type 0 where
  pub few : m.len ≤ most_backups
  pub behind : All (λ x. x ≡ 0) (drop m.len m.backups)
  pub fit : All (λ b. Within 1 n b × (b ≢ m.master)) (take m.len m.backups)
  pub apart : Distinct (take m.len m.backups)

module _ (n : ℕ) (m : Mastership) (sized : SizedMastership m) where
  abbrev Fit : ℕ → Type 0
  Fit b = Within 1 n b × (b ≢ m.master)

  abbrev in_use : List ℕ
  in_use = take m.len m.backups

  abbrev at : ℕ → ℕ
  at i = get_or m.backups i 0

  above : (l : List ℕ) → All Fit l → All (λ x. x ≢ 0) l
  above l h = all-each (λ x a. nonzero x a.0) l h
    where
      nonzero : (x : ℕ) → Within 1 n x → x ≢ 0
      nonzero x w e = let z : 1 ≤ x = w.lower in omega arith

  backups-there : (m.len ≤ most_backups) × ((i : ℕ) → i < most_backups → T (backup_place n m i)) → Backups n m
  unfolding backup_at
  backups-there t =
      let used : (i : ℕ) → i < m.len → i < most_backups → Within 1 n (at i) × ((at i ≢ m.master) × (before (at i) in_use ≡ i)) =
      λ i j k. (is_within 1 n (at i) & is-own-place m (at i) i).to (rw (lt-ltb i m.len j) at (t.1 i k)) in
      let fit : All Fit in_use = all-taken Fit m.len m.backups 0 (λ i j k. let u = used i j (omega arith) in (u.0, u.1.0)) in
      record {
        few = t.0;
        behind = all-dropped (λ x. x ≡ 0) m.len m.backups 0 (λ i j k. (is_eq (at i) 0).to (rw (le-ltb i m.len j) at (t.1 i (omega arith))));
        fit = fit;
        apart = distinct_of in_use (above in_use fit) (first-ids in_use (λ i k z.
            let j : i < m.len = let e = length-take-le m.len m.backups (let f : m.len ≤ most_backups = t.0 in omega arith) in omega arith in
            rw (get_or-take m.len m.backups i 0 j) (used i j (let f : m.len ≤ most_backups = t.0 in omega arith)).1.1));
      }

  backups-back : Backups n m → (m.len ≤ most_backups) × ((i : ℕ) → i < most_backups → T (backup_place n m i))
  unfolding backup_at
  backups-back h = (h.few, λ i k. place i k (dec_lt i m.len))
    where
      place : (i : ℕ) → i < most_backups → Dec (i < m.len) → T (cond (ltb i m.len) (within 1 n (at i) && eqb (place_of (at i) (hold_mastership m)) (i + 1)) (is_zero (at i)))
      place i k (yes j) =
          let f = taken_at Fit m.len i m.backups 0 h.fit j (omega arith) in
          let e = length-take-le m.len m.backups (let z : m.len ≤ most_backups = h.few in omega arith) in
          let same : get_or in_use i 0 ≡ at i = get_or-take m.len m.backups i 0 j in
          let own = ids-first in_use (ids-of in_use h.apart) i (omega arith) (λ q. let z : 1 ≤ at i = f.0.lower in omega arith) in
          rw (lt-ltb i m.len j) ((is_within 1 n (at i) & is-own-place m (at i) i).from (f.0, (f.1, rw same at own)))
      place i k (no j) = let z : m.len ≤ i = omega arith in rw (le-ltb i m.len z) ((is_eq (at i) 0).from (dropped-at (λ x. x ≡ 0) m.len i m.backups 0 h.behind z (omega arith)))

  pub is-backups : Is (backups_test n m) (Backups n m)
  unfolding backups_test
  is-backups = is-map backups-there backups-back (is_le m.len most_backups & is-each (λ i. as-is (backup_place n m i)) most_backups)

  -- ---- a mastership with a master

  is-tidy : Is (tidy_mastership m) ((m.len ≤ most_backups) × All (λ x. x ≡ 0) (drop m.len m.backups))
  unfolding tidy_mastership
  is-tidy = is_le m.len most_backups & is_all (λ x. is_eq x 0) (drop m.len m.backups)

  is-mastership : Is (mastership_fits n (hold_mastership m)) (((Within 1 top_term m.term.0 × Within 1 n m.master) × All Fit in_use) × Distinct in_use)
  unfolding mastership_fits backup_fits
  is-mastership = is_within 1 top_term m.term.0 & is_within 1 n m.master & is_all (λ b. is_within 1 n b & is_ne b m.master) in_use & is-distinct in_use

  pub is-event : Is (event_test n m) (T (tidy_mastership m) × T (mastership_fits n (hold_mastership m)))
  unfolding event_test
  is-event =
      is-map
      (λ t. (is-tidy.from (t.1.few, t.1.behind), is-mastership.from ((t.0, t.1.fit), t.1.apart)))
      (λ h. let a = is-tidy.to h.0 in let b = is-mastership.to h.1 in (b.0.0, record { few = a.0; behind = a.1; fit = b.0.1; apart = b.1 }))
      (is_within 1 top_term m.term.0 & is_within 1 n m.master & is-backups)

-- ---- no backups

module _ (m : Mastership) (sized : SizedMastership m) where
  abbrev None : Type 0
  None = (m.len ≡ 0) × All (λ x. x ≡ 0) m.backups

  -- Nothing is in use.
  none_of : (m.len ≤ most_backups) × All (λ x. x ≡ 0) (drop m.len m.backups) → take m.len m.backups ≡ [] → None
  none_of t e =
      let f : m.len ≤ most_backups = t.0 in
      let l = length-take-le m.len m.backups (omega arith) in
      let z : m.len ≡ 0 = sym l ∙ ap length e in
      (z, subst (λ (k : ℕ). All (λ x. x ≡ 0) (drop k m.backups)) z t.1)

  none-taken : None → take m.len m.backups ≡ []
  none-taken h = ap (λ (k : ℕ). take k m.backups) h.0

  none-tidy : None → (m.len ≤ most_backups) × All (λ x. x ≡ 0) (drop m.len m.backups)
  none-tidy h = ((let z : m.len ≡ 0 = h.0 in omega arith), subst (λ (k : ℕ). All (λ x. x ≡ 0) (drop k m.backups)) (sym h.0) h.1)

  nobody : (l : List ℕ) → All (λ b. Within 1 0 b × (b ≢ m.master)) l → l ≡ []
  nobody [] h = refl
  nobody (x ∷ l) h = let a : 1 ≤ x = h.0.0.lower in let b : x ≤ 0 = h.0.0.upper in absurd (omega arith)

  is_none : Is (backups_test 0 m) None
  is_none =
      is-map
      (λ b. none_of (b.few, b.behind) (nobody (take m.len m.backups) b.fit))
      (λ h. let t = none-tidy h in record {
        few = t.0;
        behind = t.1;
        fit = subst (λ (l : List ℕ). All (λ b. Within 1 0 b × (b ≢ m.master)) l) (sym (none-taken h)) tt;
        apart = subst Distinct (sym (none-taken h)) tt;
      })
      (is-backups 0 m sized)

  -- As the rules say it, of a tidy mastership.
  is-empty-tidy : Is (backups_test 0 m) (T (tidy_mastership m) × T (empty (take m.len m.backups)))
  is-empty-tidy =
      is-map
      (λ h. ((is-tidy 0 m sized).from (none-tidy h), (is-empty (take m.len m.backups)).from (none-taken h)))
      (λ h. none_of ((is-tidy 0 m sized).to h.0) ((is-empty (take m.len m.backups)).to h.1))
      is_none

  pub is-blank : Is (blank_test m) (T (blank_mastership m))
  unfolding blank_test blank_mastership
  is-blank =
      is-map
      (λ t. (is_eq m.term.0 0 & is_eq m.master 0 & is_all (λ x. is_eq x 0) m.backups & is_eq m.len 0).from ((t.0, t.1.1), t.1.0))
      (λ t. let h = (is_eq m.term.0 0 & is_eq m.master 0 & is_all (λ x. is_eq x 0) m.backups & is_eq m.len 0).to t in (h.0.0, (h.1, h.0.1)))
      (is_eq m.term.0 0 & is_eq m.master 0 & is_none)

  -- ---- the service's mastership and a learned one

  module _ (n : ℕ) where
    pub is-service : Is (service_test n m) (T (tidy_mastership m) × T (service_fits n (hold_mastership m)))
    unfolding service_test service_fits
    is-service = go (is_zero m.master)
      where
        masterless : Is (leb m.term.0 top_term && backups_test 0 m) (T (tidy_mastership m) × T (leb m.term.0 top_term && empty (take m.len m.backups)))
        masterless =
            let both = is_le m.term.0 top_term & as-is (empty (take m.len m.backups)) in
            is-map (λ t. (t.1.0, both.from (t.0, t.1.1))) (λ h. let b = both.to h.1 in (b.0, (h.0, b.1))) (is_le m.term.0 top_term & is-empty-tidy)

        go : (b : Bool) → Is (cond b (leb m.term.0 top_term && backups_test 0 m) (event_test n m))
            (T (tidy_mastership m) × T (cond b (leb m.term.0 top_term && empty (take m.len m.backups)) (mastership_fits n (hold_mastership m))))
        go true = masterless
        go false = is-event n m sized

    pub is-learned : Is (learned_test n m) (T (tidy_mastership m) × T (learned_fits n (hold_mastership m)))
    unfolding learned_test learned_fits blank_test
    is-learned = go (ℕ_discrete m.term.0 0)
      where
        unlearned : m.term.0 ≡ 0 → Is (is_zero m.term.0 && is_zero m.master && backups_test 0 m) (T (tidy_mastership m) × T (is_zero m.master && empty (take m.len m.backups)))
        unlearned e =
            let both = is_eq m.master 0 & as-is (empty (take m.len m.backups)) in
            is-map (λ t. (t.1.0, both.from (t.0.1, t.1.1))) (λ h. let b = both.to h.1 in ((e, b.0), (h.0, b.1))) (is_eq m.term.0 0 & is_eq m.master 0 & is-empty-tidy)

        go : Dec (m.term.0 ≡ 0) → Is (cond (not (is_zero m.term.0)) (event_test n m) (is_zero m.term.0 && is_zero m.master && backups_test 0 m))
            (T (tidy_mastership m) × T (cond (is_zero m.term.0) (is_zero m.master && empty (take m.len m.backups)) (mastership_fits n (hold_mastership m))))
        go (yes e) = let u = unlearned e in rw (eq-eqb m.term.0 0 e) (rw (eq-eqb m.term.0 0 e) at u)
        go (no e) = rw (ne_eqb m.term.0 0 e) (is-event n m sized)
