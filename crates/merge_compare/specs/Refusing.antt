-- What a comparison gives, by the tests that the code makes. Assumes nothing.
use Rattle.std.specs.Prelude.{◌≡◌, ◌≢◌, List, ℕ, Ok, Err}
use Rattle.std.proofs.Common.{ap, ap₂, sym, ◌∙◌}
use borrow.Author.Tests.{eq-eqb, ne_eqb}
use Rattle.run_lists.specs.EventList.{node_count, record_at, refusal}
use Rattle.run_lists.specs.Reads.{refusal_of}
use Rattle.step_parts.specs.Refusals.{code-some}
use Rattle.run_lists.specs.Refusals.{refusal-is}
use Rattle.run_lists.specs.declared.Trailer.{Trailer}
use Rattle.step_parts.specs.Answers.{refusal_code}
use Rattle.step_parts.specs.declared.Refusal.{Refusal}
use Rattle.run_lists.specs.Trails.{Trails}
use Rattle.merge_compare.specs.Compared.{comparison, compared}
use Rattle.merge_compare.specs.declared.Verdict.{Verdict}
use Rattle.merge_compare.specs.declared.Refused.TheVariants as W
use Rattle.merge_compare.specs.Walk.{whole}

pub whole-comparison : {first second : List ℕ} {one other : Trailer} → Trails first one → Trails second other
    → whole one.nodes (record_at first) (record_at second) one.records other.records ≡ comparison first second
whole-comparison {first} {second} {one} {other} t u =
    ap (λ (k : ℕ). whole k (record_at first) (record_at second) one.records other.records) t.nodes ∙ ap₂ (whole (node_count first) (record_at first) (record_at second)) t.records u.records

-- ---- the answers

module _ (first second : List ℕ) where
  pub first-refused : refusal first ≢ 0 → compared first second ≡ Err (W.First (refusal_of (refusal first)))
  unfolding compared
  first-refused h = simp (ne_eqb (refusal first) 0 h)

  module _ (good : refusal first ≡ 0) where
    pub second-refused : refusal second ≢ 0 → compared first second ≡ Err (W.Second (refusal_of (refusal second)))
    unfolding compared
    second-refused h = simp (eq-eqb (refusal first) 0 good, ne_eqb (refusal second) 0 h)

    module _ (good' : refusal second ≡ 0) where
      pub nodes-differ : node_count first ≢ node_count second → compared first second ≡ Err W.NodesDiffer
      unfolding compared
      nodes-differ h = simp (eq-eqb (refusal first) 0 good, eq-eqb (refusal second) 0 good', ne_eqb (node_count first) (node_count second) h)

      pub both-good : node_count first ≡ node_count second → compared first second ≡ Ok (comparison first second)
      unfolding compared
      both-good h = simp (eq-eqb (refusal first) 0 good, eq-eqb (refusal second) 0 good', eq-eqb (node_count first) (node_count second) h)

-- ---- the same, as the code has them

pub as-first : {r : Refusal} (first second : List ℕ) → refusal_code r ≡ refusal first → compared first second ≡ Err (W.First r)
as-first {r} first second e =
    first-refused first second (λ z. code-some r (e ∙ z)) ∙ sym (ap (λ (q : Refusal). Err (W.First q)) (refusal-is e))

pub as-second : {r : Refusal} (first second : List ℕ) → refusal first ≡ 0 → refusal_code r ≡ refusal second → compared first second ≡ Err (W.Second r)
as-second {r} first second good e =
    second-refused first second good (λ z. code-some r (e ∙ z)) ∙ sym (ap (λ (q : Refusal). Err (W.Second q)) (refusal-is e))

pub as-good : {v : Verdict} (first second : List ℕ) → refusal first ≡ 0 → refusal second ≡ 0 → node_count first ≡ node_count second → v ≡ comparison first second → compared first second ≡ Ok v
as-good first second good good' nodes e = both-good first second good good' nodes ∙ sym (ap (λ (v : Verdict). Ok v) e)
