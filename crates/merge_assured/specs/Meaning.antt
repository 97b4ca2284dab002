-- The verdict on two lists of bytes is the verdict on their records; `proofs/Meaning` shows what it means. Assumes nothing.
use Rattle.std.specs.Prelude.{◌≡◌, refl, ◌↔◌, ◌≢◌, Bool, true, false, ℕ, zero, suc, ◌+◌, Result, Ok, Err}
use Rattle.std.proofs.Common.{sym, ap, ap₂, ◌∙◌, add-zero, zero-add, suc-add, add-suc}
use Rattle.std.proofs.Math.Path.{subst}
use Rattle.std.proofs.Math.Option.{Option, none, some}
use mathlib.Core.List.{List, [], ◌∷◌, map}
use Rattle.std.proofs.Math.Decide.{ℕ_discrete}
use Rattle.std.proofs.Math.Dec.{T}
use Rattle.rules.specs.Step.{Event}
use Rattle.rules_exchange.specs.Independent.{independent}
use Rattle.any_list.specs.Arrays.{table}
use Rattle.any_list.specs.Tables.{table-ext}
use Rattle.run_lists.specs.EventList.{node_count, record_count, record_at, records, refusal}
use Rattle.merge_verdict.specs.Verdict.{Pulled, taken, blocked, missing, met, pull, when_taken, exchangeable, same_event, same_merge}
use Rattle.merge_compare.specs.declared.Verdict.{Verdict}
use Rattle.merge_compare.specs.declared.Refused.{Refused}
use Rattle.any_search.specs.Places.{from, seek}
use Rattle.merge_compare.specs.Compare.{same, free, equal, obstacle, looked, compare}
use Rattle.merge_compare.specs.Compared.{comparison, compared}
use Rattle.merge_compare.specs.Refusing.{first-refused, second-refused, nodes-differ, both-good}

-- ---- looking among places is looking among what stands there

abbrev mapped : {A B : Type 0} → (A → B) → Pulled A → Pulled B
mapped f (taken l) = taken (map f l)
mapped f (blocked x) = blocked (f x)
mapped f missing = missing

module _ {A B : Type 0} (f : A → B) (may wanted : B → Bool) where
  met-map : (a b : Bool) (x : A) (l : List A) (o : Pulled A) → met a b (f x) (map f l) (mapped f o) ≡ mapped f (met a b x l o)
  met-map true b x l (taken k) = refl
  met-map true b x l (blocked y) = refl
  met-map true b x l missing = refl
  met-map false true x l o = refl
  met-map false false x l o = refl

  pull-map : (l : List A) → pull may wanted (map f l) ≡ mapped f (pull (λ x. may (f x)) (λ x. wanted (f x)) l)
  pull-map [] = refl
  pull-map (x ∷ l) =
      ap (met (may (f x)) (wanted (f x)) (f x) (map f l)) (pull-map l) ∙ met-map (may (f x)) (wanted (f x)) x l (pull (λ x. may (f x)) (λ x. wanted (f x)) l)

-- ---- only one finding is `same`

module _ (count : ℕ) (here there : ℕ → Event) where
  hindered : (a b : ℕ) (o p : Option ℕ) → obstacle count here there a b o p ≢ same
  hindered a b none p e = cc
  hindered a b (some x) none e = cc
  hindered a b (some x) (some y) e = cc

  abbrev Agree : List ℕ → List ℕ → Type 0
  Agree ps qs = (compare count here there ps qs ≡ same) ↔ T (exchangeable (independent count) same_event (map here ps) (map there qs))

  -- What was found among the places, and what among the records.
  abbrev Found : ℕ → List ℕ → List ℕ → Pulled ℕ → Pulled Event → Type 0
  Found a ps qs o r = (looked count here there (compare count here there ps) a ps qs o ≡ same) ↔ T (when_taken (exchangeable (independent count) same_event (map here ps)) r)

  found : (a : ℕ) (ps qs : List ℕ) → ((rest : List ℕ) → Agree ps rest) → (o : Pulled ℕ) → Found a ps qs o (mapped there o)
  found a ps qs f (taken rest) = f rest
  found a ps qs f (blocked b) = ((λ e. absurd (hindered a b (seek (equal count here there a) qs) (seek (λ x. equal count here there x b) ps) e)), λ t. absurd t)
  found a ps qs f missing = ((λ e. absurd (cc)), λ t. absurd t)

  same-iff : (ps qs : List ℕ) → Agree ps qs
  unfolding compare
  same-iff [] [] = ((λ e. tt), λ t. refl)
  same-iff [] (b ∷ qs) = ((λ e. absurd (cc)), λ t. absurd t)
  same-iff (a ∷ ps) qs =
      let o = pull (free count here there a) (equal count here there a) qs in
      subst (Found a ps qs o) (sym (pull-map there (independent count (here a)) (same_event (here a)) qs)) (found a ps qs (same-iff ps) o)

-- ---- the records of a list, by their places

module _ (f : ℕ → Event) where
  by-places : (a n : ℕ) → map f (from a n) ≡ table n (λ i. f (a + i))
  by-places a zero = refl
  by-places a (suc n) = ap₂ ◌∷◌ (ap f (sym (add-zero a))) (by-places (suc a) n ∙ table-ext n (λ i. f (a + suc i)) (λ i. f (suc a + i)) (λ i. ap f (suc-add a i ∙ sym (add-suc a i))))

  pub all-places : (n : ℕ) → map f (from 0 n) ≡ table n f
  all-places n = by-places 0 n ∙ table-ext n f (λ i. f (0 + i)) (λ i. ap f (zero-add i))

-- ---- the lists

-- Both are accepted, of one node count.
pub record Comparable (first second : List ℕ) : Type 0 where
  pub one : refusal first ≡ 0
  pub other : refusal second ≡ 0
  pub nodes : node_count first ≡ node_count second

pub comparable : {v : Verdict} (first second : List ℕ) → compared first second ≡ Ok v → Comparable first second
comparable {v} first second e = go (ℕ_discrete (refusal first) 0) (ℕ_discrete (refusal second) 0) (ℕ_discrete (node_count first) (node_count second))
  where
    -- no refusal is a verdict
    never : (r : Refused) → compared first second ≡ Err r → ⊥
    never r i = let z : ◌≡◌ {A = Result Verdict Refused} (Ok v) (Err r) = sym e ∙ i in cc

    go : Dec (refusal first ≡ 0) → Dec (refusal second ≡ 0) → Dec (node_count first ≡ node_count second) → Comparable first second
    go (no a) b c = absurd (never _ (first-refused first second a))
    go (yes a) (no b) c = absurd (never _ (second-refused first second a b))
    go (yes a) (yes b) (no c) = absurd (never _ (nodes-differ first second a b c))
    go (yes a) (yes b) (yes c) = record { one = a; other = b; nodes = c }

-- The verdict is that of the comparison.
pub compared-as : {v : Verdict} (first second : List ℕ) → compared first second ≡ Ok v → comparison first second ≡ v
compared-as {v} first second e =
    let c = comparable first second e in
    let z : ◌≡◌ {A = Result Verdict Refused} (Ok (comparison first second)) (Ok v) = sym (both-good first second c.one c.other c.nodes) ∙ e in
    cc

module _ (first second : List ℕ) where
  pub on-records : (comparison first second ≡ same) ↔ T (same_merge (node_count first) (records first) (records second))
  unfolding same_merge
  on-records = subst (λ (fs : List Event). (comparison first second ≡ same) ↔ T (exchangeable (independent (node_count first)) same_event (records first) fs)) (all-places (record_at second) (record_count second))
      (subst (λ (es : List Event). (comparison first second ≡ same) ↔ T (exchangeable (independent (node_count first)) same_event es (map (record_at second) (from 0 (record_count second)))))
      (all-places (record_at first) (record_count first))
      (same-iff (node_count first) (record_at first) (record_at second) (from 0 (record_count first)) (from 0 (record_count second))))
