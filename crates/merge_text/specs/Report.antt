-- What comparing two lists prints: the verdict, then what running both gives; or one line that says why not.
use Rattle.std.specs.Prelude.{cond, List, [], ◌∷◌, ◌++◌, ℕ, eqb, length, Option, None, Some, unwrap_or}
use Rattle.run_lists.specs.EventList.{node_count, refusal}
use Rattle.merge_compare.specs.declared.Verdict.{Verdict}
use Rattle.merge_compare.specs.declared.Verdict.TheVariants as V
use Rattle.merge_compare.specs.Compared.{comparison}
use Rattle.run_lists.specs.Entries.{no_write}
use Rattle.step_parts.specs.declared.Write.{Write}
use Rattle.step_parts.specs.Hold.{pack_write}
use Rattle.run_difference.specs.declared.Parting.{Parting}
use Rattle.run_difference.specs.Difference.{difference, history}
use Rattle.any_text.specs.Line.{line}
use Rattle.merge_text.specs.Words as W

-- "same", or what stands in the way.
unfoldable pub verdict_line : Verdict → List ℕ
verdict_line V.Same = line W.same []
verdict_line (V.Order p q r s) = line W.order (p ∷ q ∷ r ∷ s ∷ [])
verdict_line (V.OnlyFirst p) = line W.only_first (p ∷ [])
verdict_line (V.OnlySecond s) = line W.only_second (s ∷ [])

-- Printed for an entry that a history does not have.
abbrev pub missing : Write
missing = pack_write no_write

-- "agrees", or the first entry in which two histories differ: its place, then node and term in each.
unfoldable pub parting_line : Option Parting → List ℕ
parting_line None = line W.agrees []
parting_line (Some d) =
    line W.differs (d.at ∷ (unwrap_or d.one missing).node ∷ (unwrap_or d.one missing).term.0 ∷ (unwrap_or d.other missing).node ∷ (unwrap_or d.other missing).term.0 ∷ [])

-- How many writes each run accepts, and whether they are the same.
unfoldable pub runs_text : List ℕ → List ℕ → List ℕ
runs_text first second = line W.writes (length (history first) ∷ length (history second) ∷ []) ++ parting_line (difference (history first) (history second))

-- No text is longer.
abbrev pub longest : ℕ
longest = 288

unfoldable pub report : List ℕ → List ℕ → List ℕ
report first second =
    cond (eqb (refusal first) 0)
    (cond (eqb (refusal second) 0)
    (cond (eqb (node_count first) (node_count second))
    (verdict_line (comparison first second) ++ runs_text first second)
    (line W.refused_nodes (node_count first ∷ node_count second ∷ [])))
    (line W.refused_second (refusal second ∷ [])))
    (line W.refused_first (refusal first ∷ []))
