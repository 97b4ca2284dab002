-- The list of the scope, in bytes, and what is printed for it. Assumes nothing.
use Rattle.std.specs.Prelude.{◌≡◌, refl, List, [], ◌∷◌, ◌++◌, ℕ}
use Rattle.rules_laws.specs.Computed.{computed}
use Rattle.run_lists.specs.EventList as EventList
use Rattle.any_text.specs.Decimal as Decimal
use Rattle.any_text.specs.Lines as Lines
use Rattle.any_text.specs.Line.{lines}
use Rattle.run_lines.specs.RunText.{run_text}
use Rattle.run_text.specs.Transcript.{transcript}

abbrev listed : List ℕ
listed = 1 ∷ 1 ∷ 3 ∷ 1 ∷ 8 ∷ 1 ∷ 4 ∷ 1 ∷ 10 ∷ 1 ∷ 5 ∷ 1 ∷ 6 ∷ 1 ∷ 11 ∷ 1 ∷ 0 ∷ 0 ∷ 0 ∷ 0 ∷ 8 ∷ 0 ∷ 0 ∷ 0 ∷ 2 ∷ 0 ∷ 77 ∷ 65 ∷ []

-- "1 1 1 0", "2 3 1 0", "3 8 1 0", "4 4 1 0", "5 10 1 0", "6 5 1 0", "7 6 1 0", "8 11 1 0", "writes 1" and "1 1".
abbrev printed : List ℕ
printed =
    (49 ∷ 32 ∷ 49 ∷ 32 ∷ 49 ∷ 32 ∷ 48 ∷ 10 ∷ [])
    ++ (50 ∷ 32 ∷ 51 ∷ 32 ∷ 49 ∷ 32 ∷ 48 ∷ 10 ∷ [])
    ++ (51 ∷ 32 ∷ 56 ∷ 32 ∷ 49 ∷ 32 ∷ 48 ∷ 10 ∷ [])
    ++ (52 ∷ 32 ∷ 52 ∷ 32 ∷ 49 ∷ 32 ∷ 48 ∷ 10 ∷ [])
    ++ (53 ∷ 32 ∷ 49 ∷ 48 ∷ 32 ∷ 49 ∷ 32 ∷ 48 ∷ 10 ∷ [])
    ++ (54 ∷ 32 ∷ 53 ∷ 32 ∷ 49 ∷ 32 ∷ 48 ∷ 10 ∷ [])
    ++ (55 ∷ 32 ∷ 54 ∷ 32 ∷ 49 ∷ 32 ∷ 48 ∷ 10 ∷ [])
    ++ (56 ∷ 32 ∷ 49 ∷ 49 ∷ 32 ∷ 49 ∷ 32 ∷ 48 ∷ 10 ∷ [])
    ++ (119 ∷ 114 ∷ 105 ∷ 116 ∷ 101 ∷ 115 ∷ 32 ∷ 49 ∷ 10 ∷ [])
    ++ (49 ∷ 32 ∷ 49 ∷ 10 ∷ [])

pub listed-printed : transcript listed ≡ printed
unfolding computed transcript run_text lines EventList.refusal EventList.number_at Decimal.digits Decimal.decimal Lines.record_line Lines.writes_line Lines.write_line
listed-printed = refl
