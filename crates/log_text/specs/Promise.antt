-- What "same" promises: every merge of the same logs that the clocks allow ends in the same state with the same history. Assumes nothing.
use Rattle.std.specs.Prelude.{◌≡◌, refl, Bool, true, false, cond, List, [], ◌∷◌, ◌++◌, ℕ, eqb, leb, length, get_or}
use Rattle.std.proofs.Common.{arith, eqb-true}
use Rattle.rules.specs.Step.{fresh}
use Rattle.rules_laws.specs.Steps.{fresh-fits}
use Rattle.merge_verdict.specs.Verdict.{Same}
use Rattle.merge_verdict.specs.Clocks.{Logged, events, SameLogs, clocks, Timely}
use Rattle.merge_verdict.proofs.Merging.{clock-verdict}
use Rattle.any_text.specs.Line.{line}
use Rattle.merge_text.specs.Words as R
use Rattle.log_read.specs.Log.{longest_text, Row, read_text}
use Rattle.log_read.specs.Known.{few-nodes, good-nodes}
use Rattle.log_records.specs.Rows.{no_row, merged}
use Rattle.log_records.specs.PairLine.{doubt, against}
use Rattle.log_doubts.specs.declared.Pair.{Pair}
use Rattle.log_doubts.specs.Doubts.{doubts}
use Rattle.log_doubts.specs.Nothing.{no-doubt}
use Rattle.log_text.specs.Words as W
use Rattle.log_text.specs.Answer.{pair_text, shown, doubts_text, log_text, answer, Certain}

-- ---- "same" is said nowhere else

pub said_same : (count bound : ℕ) (rows : List Row) → log_text count bound rows ≡ line R.same [] → doubts count bound rows ≡ []
unfolding doubts_text shown line
said_same count bound rows e = go (doubts count bound rows) e
  where
    other : (b : Bool) (ns l m : List ℕ) → (line (cond b doubt against) ns ++ l) ++ m ≡ line R.same [] → ⊥
    other true ns l m e = let z : ◌≡◌ {A = ℕ} 100 115 = cc in omega arith
    other false ns l m e = let z : ◌≡◌ {A = ℕ} 97 115 = cc in omega arith

    go : (ps : List Pair) → doubts_text (pair_text count bound rows) ps ≡ line R.same [] → ps ≡ []
    go [] e = refl
    go (p ∷ ps) e = absurd (other (clocks bound (get_or rows p.x no_row).logged (get_or rows p.y no_row).logged) _ _ _ e)

-- A text for which "same" is printed is certain.
pub certain : (text : List ℕ) → answer text ≡ line R.same [] → Certain text
unfolding answer line
certain text e = go (leb (length text) longest_text) (eqb (read_text text).refused 0) refl e
  where
    go : (a b : Bool) → eqb (read_text text).refused 0 ≡ b
        → cond a (cond b (log_text (read_text text).nodes (read_text text).bound (read_text text).rows) (line W.refused_line ((read_text text).refused ∷ []))) (line W.refused_long []) ≡ line R.same []
        → Certain text
    go true true i u = record { good = eqb-true _ _ i; none = said_same (read_text text).nodes (read_text text).bound (read_text text).rows u }
    go true false i u = absurd (let z : ◌≡◌ {A = ℕ} 114 115 = cc in omega arith)
    go false b i u = absurd (let z : ◌≡◌ {A = ℕ} 114 115 = cc in omega arith)

-- ---- the promise, for the bytes that a user holds

pub promise : (text : List ℕ) → answer text ≡ line R.same []
    → (fs : List Logged) → SameLogs (merged (read_text text).rows) fs → Timely (clocks (read_text text).bound) fs
    → Same (fresh (read_text text).nodes) (events (merged (read_text text).rows)) (events fs)
unfolding fresh
promise text e fs logs timely =
    let c = certain text e in
    clock-verdict (fresh (read_text text).nodes) (clocks (read_text text).bound) (merged (read_text text).rows)
    (fresh-fits (read_text text).nodes (good-nodes text c.good) (few-nodes text))
    (no-doubt (read_text text).nodes (read_text text).bound (read_text text).rows c.none) fs logs timely
