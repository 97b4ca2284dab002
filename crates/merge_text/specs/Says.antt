-- What a line says, by the tests that the code makes. Assumes nothing.
use Rattle.std.specs.Prelude.{◌≡◌, ◌≢◌, List, [], ◌∷◌, ◌++◌, ℕ}
use Rattle.std.proofs.Math.Path.{sym}
use borrow.Author.Tests.{eq-eqb, ne_eqb}
use Rattle.run_lists.specs.EventList.{node_count, refusal}
use Rattle.any_text.specs.Put.{Put}
use Rattle.merge_compare.specs.Compared.{comparison}
use Rattle.any_text.specs.Line.{line}
use Rattle.merge_text.specs.Words as W
use Rattle.merge_text.specs.Report.{verdict_line, runs_text, report}

-- The same bytes, by another name.
pub put_as : {l a b m : List ℕ} {at i : ℕ} → a ≡ b → Put l at a m i → Put l at b m i
put_as e p = rw (← e) p

module _ (first second : List ℕ) where
  pub says-refused-first : refusal first ≢ 0 → line W.refused_first (refusal first ∷ []) ≡ report first second
  unfolding report
  says-refused-first h = sym (simp (ne_eqb (refusal first) 0 h))

  module _ (good : refusal first ≡ 0) where
    pub says-refused-second : refusal second ≢ 0 → line W.refused_second (refusal second ∷ []) ≡ report first second
    unfolding report
    says-refused-second h = sym (simp (eq-eqb (refusal first) 0 good, ne_eqb (refusal second) 0 h))

    module _ (good' : refusal second ≡ 0) where
      pub says-nodes : node_count first ≢ node_count second → line W.refused_nodes (node_count first ∷ node_count second ∷ []) ≡ report first second
      unfolding report
      says-nodes h = sym (simp (eq-eqb (refusal first) 0 good, eq-eqb (refusal second) 0 good', ne_eqb (node_count first) (node_count second) h))

      pub says_all : node_count first ≡ node_count second → verdict_line (comparison first second) ++ runs_text first second ≡ report first second
      unfolding report
      says_all h = sym (simp (eq-eqb (refusal first) 0 good, eq-eqb (refusal second) 0 good', eq-eqb (node_count first) (node_count second) h))
