-- Texts, and what is printed for them; lists, and their texts: computed, all together as two tables. Assumes nothing.
use Rattle.std.specs.Prelude.{◌≡◌, refl, List, [], ◌∷◌, map, ℕ}
use Prim.Native.String.{String}
use Rattle.rules.specs.Range.{all, within}
use Rattle.any_text.specs.Decimal.{digits, decimal}
use Rattle.any_text.specs.Lines.{refused_line}
use Rattle.any_text.specs.Line.{spaced, line, lines}
use Rattle.any_text.specs.Printed.{Output, printing, refusing}
use Rattle.any_words.specs.Text.{pieces, same, number_of}
use Rattle.run_lists.specs.EventList.{number_at, refusal}
use Rattle.run_lists.specs.Listed.{flat}
use Rattle.list_write.specs.Write.{first_fault, write_refusal}
use Rattle.list_words.specs.Names.{bytes, names}
use Rattle.list_words.specs.Line.{kind_named, line_of}
use Rattle.list_source.specs.Source.{read_from, read_text}
use Rattle.list_source.specs.Printed.{written, output}
use Rattle.list_text.specs.Shown.{list_text, shown}

-- ---- from a text

record Source : Type 0 where
  text : String
  prints : Output

abbrev lists : String → List ℕ → Source
lists text list = record { text = text; prints = printing list }

abbrev refuses : String → String → Source
refuses text said = record { text = text; prints = refusing (bytes said) }

abbrev sources : List Source
sources =
    lists "nodes 2\njoin 1\nhandle-write 2\n" (1 ∷ 1 ∷ 11 ∷ 2 ∷ 0 ∷ 0 ∷ 0 ∷ 0 ∷ 2 ∷ 0 ∷ 0 ∷ 0 ∷ 2 ∷ 0 ∷ 77 ∷ 65 ∷ [])
    ∷ lists "# two\n\n\tnodes  002 # here\r\n13 0 #" (13 ∷ 0 ∷ 0 ∷ 0 ∷ 0 ∷ 0 ∷ 1 ∷ 0 ∷ 0 ∷ 0 ∷ 2 ∷ 0 ∷ 77 ∷ 65 ∷ [])
    ∷ lists "nodes 1" (0 ∷ 0 ∷ 0 ∷ 0 ∷ 0 ∷ 0 ∷ 0 ∷ 0 ∷ 1 ∷ 0 ∷ 77 ∷ 65 ∷ [])
    ∷ refuses "" "refused line 1\n"
    ∷ refuses "\n # nothing\n" "refused line 1\n"
    ∷ refuses "join 1\n" "refused line 1\n"
    ∷ refuses "nodes 9\njoin\n" "refused 10 line 1\n"
    ∷ refuses "nodes 256\n" "refused line 1\n"
    ∷ refuses "nodes 1\n\nnodes 1\n" "refused line 3\n"
    ∷ refuses "nodes 1\njoin 2\nfly 1\n" "refused 3 line 2\n"
    ∷ refuses "nodes 1\nfly 1\njoin 2\n" "refused line 2\n"
    ∷ refuses "nodes 1\n14 1\n" "refused 2 line 2\n"
    ∷ refuses "nodes 1\nJoin 1\n" "refused line 2\n"
    ∷ refuses "nodes 1\njoin join\n" "refused line 2\n"
    ∷ refuses "nodes 1\njoin 1 1\n" "refused line 2\n"
    ∷ []

pub all-sources : map (λ s. output (bytes s.text)) sources ≡ map (λ s. s.prints) sources
unfolding all within digits decimal refused_line spaced line pieces same number_of flat first_fault write_refusal names kind_named line_of read_from read_text written output
all-sources = refl

-- ---- from a list

record Shows : Type 0 where
  list : List ℕ
  prints : Output

abbrev shows : List ℕ → String → Shows
shows list text = record { list = list; prints = printing (bytes text) }

abbrev shown_lists : List Shows
shown_lists =
    shows (1 ∷ 1 ∷ 5 ∷ 2 ∷ 0 ∷ 0 ∷ 0 ∷ 0 ∷ 2 ∷ 0 ∷ 0 ∷ 0 ∷ 2 ∷ 0 ∷ 77 ∷ 65 ∷ []) "nodes 2\njoin 1\nreceive-update 2\n"
    ∷ shows (7 ∷ 7 ∷ 7 ∷ 0 ∷ 9 ∷ 12 ∷ 255 ∷ 3 ∷ 0 ∷ 0 ∷ 0 ∷ 2 ∷ 0 ∷ 0 ∷ 0 ∷ 1 ∷ 0 ∷ 77 ∷ 65 ∷ []) "nodes 1\n# note bytes left out: 3\n0 9\nshutdown 255\n"
    ∷ record { list = 77 ∷ 65 ∷ []; prints = refusing (bytes "refused 8\n") }
    ∷ []

pub all_shown : map (λ s. shown s.list) shown_lists ≡ map (λ s. s.prints) shown_lists
unfolding within digits decimal refused_line spaced line lines number_at refusal names list_text shown
all_shown = refl
