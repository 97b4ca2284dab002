-- What the program prints for the text of a merged log.
use Rattle.std.specs.Prelude.{◌≡◌, true, false, cond, List, [], ◌∷◌, ◌++◌, ℕ, zero, suc, eqb, leb, length, get_or}
use Rattle.any_text.specs.Line.{line}
use Rattle.merge_text.specs.Words as R
use Rattle.merge_text.specs.Report.{parting_line}
use Rattle.log_exchange.specs.Exchange.{allowed, parting_of}
use Rattle.log_read.specs.Log.{longest_text, Row, Reading, read_text}
use Rattle.log_doubts.specs.declared.Pair.{Pair}
use Rattle.log_records.specs.Rows.{no_row}
use Rattle.log_records.specs.PairLine.{pair_line}
use Rattle.log_doubts.specs.Doubts.{doubts}
use Rattle.log_text.specs.Words as W

-- What the exchange does that the clocks allow: the second record moved up to the first, or else the first moved down to the second.
unfoldable pub outcome : ℕ → ℕ → List Row → Pair → List ℕ
outcome count bound rows p =
    cond (allowed bound rows true p.x p.y)
    (parting_line (parting_of count rows true p.x p.y))
    (cond (allowed bound rows false p.x p.y)
    (parting_line (parting_of count rows false p.x p.y))
    (line W.unsettled []))

-- The two records, and what is known of them.
abbrev pub pair_text : ℕ → ℕ → List Row → Pair → List ℕ
pair_text count bound rows p = pair_line bound (get_or rows p.x no_row) (get_or rows p.y no_row) ++ outcome count bound rows p

-- The first so many of them; and whether there are more.
unfoldable pub shown : (Pair → List ℕ) → ℕ → List Pair → List ℕ
shown f zero [] = []
shown f zero (p ∷ ps) = line W.more []
shown f (suc k) [] = []
shown f (suc k) (p ∷ ps) = f p ++ shown f k ps

abbrev pub most_shown : ℕ
most_shown = 16

-- "same" where no pair is in doubt.
unfoldable pub doubts_text : (Pair → List ℕ) → List Pair → List ℕ
doubts_text f [] = line R.same []
doubts_text f (p ∷ ps) = shown f most_shown (p ∷ ps)

abbrev pub log_text : ℕ → ℕ → List Row → List ℕ
log_text count bound rows = doubts_text (pair_text count bound rows) (doubts count bound rows)

abbrev pub reading_text : Reading → List ℕ
reading_text r = cond (eqb r.refused 0) (log_text r.nodes r.bound r.rows) (line W.refused_line (r.refused ∷ []))

unfoldable pub answer : List ℕ → List ℕ
answer text = cond (leb (length text) longest_text) (reading_text (read_text text)) (line W.refused_long [])

-- The text is not refused, and nothing in it is in doubt.
pub record Certain (text : List ℕ) : Type 0 where
  pub good : (read_text text).refused ≡ 0
  pub none : doubts (read_text text).nodes (read_text text).bound (read_text text).rows ≡ []
