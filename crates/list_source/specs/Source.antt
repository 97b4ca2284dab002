-- Steps in text, read line by line: the first line that says something has the node count, each line behind it a step or nothing.
use Rattle.std.specs.Prelude.{cond, List, [], ◌∷◌, ◌++◌, ℕ, zero, suc}
use Rattle.rules.specs.Limits.{most_nodes}
use Rattle.rules.specs.Codes.{bad_node_count}
use Rattle.rules.specs.Range.{within}
use Rattle.rules.specs.Step.{Event}
use Rattle.any_words.specs.Text.{lines}
use Rattle.list_write.specs.Write.{fault_of}
use Rattle.list_words.specs.declared.Line.{Line}
use Rattle.list_words.specs.declared.Line.TheVariants.{Blank, Nodes, Step, Other}
use Rattle.list_words.specs.Line.{line_of}

-- ---- one line

-- Why a line is refused that cannot be read.
abbrev pub unread : ℕ
unread = 0

-- What a line comes to: the node count from there on and the steps on it, or why it is refused.
pub data Take : Type 0 where
  takes : ℕ → List Event → Take
  stops : ℕ → Take

abbrev pub judged : ℕ → ℕ → Event → Take
judged zero nodes e = takes nodes (e ∷ [])
judged (suc code) nodes e = stops (suc code)

abbrev pub step_of : ℕ → ℕ → Event
step_of kind node = record { kind = kind; node = node }

-- A line behind others that say the node count, which is 0 where they say nothing.
abbrev pub comes_to : ℕ → Line → Take
comes_to nodes Blank = takes nodes []
comes_to nodes Other = stops unread
comes_to zero (Nodes n) = cond (within 1 most_nodes n) (takes n []) (stops bad_node_count)
comes_to zero (Step kind node) = stops unread
comes_to (suc m) (Nodes n) = stops unread
comes_to (suc m) (Step kind node) = judged (fault_of (suc m) (step_of kind node)) (suc m) (step_of kind node)

-- ---- all of them

-- The number of the line that is refused, or 0, and why; the node count, and the steps.
pub record Reading : Type 0 where
  pub line : ℕ
  pub code : ℕ
  pub nodes : ℕ
  pub steps : List Event

abbrev pub refused : ℕ → ℕ → Reading
refused k code = record { line = k; code = code; nodes = 0; steps = [] }

abbrev pub behind : List Event → Reading → Reading
behind es r = record { line = r.line; code = r.code; nodes = r.nodes; steps = es ++ r.steps }

-- Line k comes to this; what follows is r, by the node count.
abbrev pub after : ℕ → Take → (ℕ → Reading) → Reading
after k (takes nodes es) r = behind es (r nodes)
after k (stops code) r = refused k code

-- Where no line says anything, line 1 is refused.
abbrev pub ended : ℕ → Reading
ended zero = refused 1 unread
ended (suc m) = record { line = 0; code = 0; nodes = suc m; steps = [] }

-- The lines from number k on.
unfoldable pub read_from : ℕ → ℕ → List (List ℕ) → Reading
read_from nodes k [] = ended nodes
read_from nodes k (l ∷ ls) = after k (comes_to nodes (line_of l)) (λ n. read_from n (suc k) ls)

unfoldable pub read_text : List ℕ → Reading
read_text text = read_from 0 1 (lines text)
