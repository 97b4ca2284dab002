-- A merged log as text: the first line that is not empty has the node count and the clocks' bound, each line behind it a record or nothing.
use Rattle.std.specs.Prelude.{Bool, true, false, cond, ◌&&◌, List, [], ◌∷◌, ◌++◌, Result, Ok, Err, ℕ, suc, ◌+◌, eqb, leb, ltb, length}
use Rattle.rules.specs.Limits.{most_nodes}
use Rattle.rules.specs.Range.{within}
use Rattle.merge_verdict.specs.Clocks.{Logged}
use Rattle.log_read.specs.declared.Line.{Line}
use Rattle.log_read.specs.declared.Line.TheVariants.{Blank, Two, Four, Other}
use Rattle.log_read.specs.declared.Record.{Record}
use Rattle.log_read.specs.declared.Log.{Log}
use Rattle.log_read.specs.declared.Refused.{Refused}
use Rattle.any_words.specs.Text.{lines}
use Rattle.log_read.specs.Line.{line_of}

-- The most bytes of a text, and the most records of a log.
abbrev pub longest_text : ℕ
longest_text = 2097152

abbrev pub most_records : ℕ
most_records = 32762

-- A record and the number of its line.
pub record Row : Type 0 where
  pub line : ℕ
  pub logged : Logged

-- ---- one line behind the first

-- Whether a line may stand behind that many records.
abbrev pub fits : ℕ → Line → Bool
fits records Blank = true
fits records (Two a b) = false
fits records (Four log time kind node) = ltb records most_records && leb kind 255 && leb node 255
fits records Other = false

-- The record on a line, if there is one.
abbrev pub row_on : ℕ → Line → List Row
row_on k Blank = []
row_on k (Two a b) = []
row_on k (Four log time kind node) = record { line = k; logged = record { log = log; time = time; event = record { kind = kind; node = node } } } ∷ []
row_on k Other = []

-- ---- all of them

-- Records, and the number of the first line that is bad behind them, or 0.
pub record Part : Type 0 where
  pub refused : ℕ
  pub rows : List Row

abbrev pub behind : List Row → Part → Part
behind rows p = record { refused = p.refused; rows = rows ++ p.rows }

-- Line k holds these records, if it fits; what follows it is p.
abbrev pub after : Bool → ℕ → List Row → Part → Part
after true k rows p = behind rows p
after false k rows p = record { refused = k; rows = [] }

-- The lines from number k on, behind that many records.
unfoldable pub part : ℕ → ℕ → List (List ℕ) → Part
part records k [] = record { refused = 0; rows = [] }
part records k (l ∷ ls) = after (fits records (line_of l)) k (row_on k (line_of l)) (part (records + length (row_on k (line_of l))) (suc k) ls)

-- ---- the whole text

pub record Reading : Type 0 where
  pub refused : ℕ
  pub nodes : ℕ
  pub bound : ℕ
  pub rows : List Row

abbrev pub bad_head : ℕ → Reading
bad_head k = record { refused = k; nodes = 0; bound = 0; rows = [] }

-- What a first line says, if it is not empty and good.
pub record FirstLine : Type 0 where
  pub empty : Bool
  pub good : Bool
  pub nodes : ℕ
  pub bound : ℕ

abbrev pub no_head : Bool → FirstLine
no_head empty = record { empty = empty; good = false; nodes = 0; bound = 0 }

-- What a first line says.
abbrev pub head_on : Line → FirstLine
head_on Blank = no_head true
head_on (Two nodes bound) = cond (within 1 most_nodes nodes) (record { empty = false; good = true; nodes = nodes; bound = bound }) (no_head false)
head_on (Four a b c d) = no_head false
head_on Other = no_head false

-- Line k has the head.
abbrev pub headed : ℕ → FirstLine → Part → Reading
headed k h p = cond h.good (record { refused = p.refused; nodes = h.nodes; bound = h.bound; rows = p.rows }) (bad_head k)

-- The lines from number k on, where those before are empty. Where all are, line 1 is refused.
abbrev pub read_lines : ℕ → List (List ℕ) → Reading
read_lines k [] = bad_head 1
read_lines k (l ∷ ls) = cond (head_on (line_of l)).empty (read_lines (suc k) ls) (headed k (head_on (line_of l)) (part 0 (suc k) ls))

unfoldable pub read_text : List ℕ → Reading
read_text text = read_lines 1 (lines text)

-- ---- what the code answers

-- The numbers of a record, as they are printed.
abbrev pub row_numbers : Row → List ℕ
row_numbers r = r.line ∷ r.logged.log ∷ r.logged.time ∷ r.logged.event.kind ∷ r.logged.event.node ∷ []

-- A record as the code has it, and back.
abbrev pub record_of : Row → Record
record_of r = record { line = r.line; log = r.logged.log; time = r.logged.time; kind = r.logged.event.kind; node = r.logged.event.node }

abbrev pub row_of : Record → Row
row_of r = record { line = r.line; logged = record { log = r.log; time = r.time; event = record { kind = r.kind; node = r.node } } }

abbrev pub log_of : Reading → Result Log Refused
log_of r = cond (eqb r.refused 0) (Ok (record { nodes = r.nodes; bound = r.bound; records = length r.rows })) (Err (record { line = r.refused; nodes = r.nodes; bound = r.bound; records = length r.rows }))
