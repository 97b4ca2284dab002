-- One exchange of two records that are in doubt, where the clocks allow it, and what it does to the history. `Allowed` proves what it is.
use Rattle.std.specs.Prelude.{◌≡◌, Bool, true, false, cond, not, ◌&&◌, List, ℕ, suc, ◌+◌, ◌-◌, ◌<◌, eqb, leb, ltb, length, get_or, Option}
use Rattle.rules.specs.State.{Write}
use Rattle.rules.specs.Range.{all}
use Rattle.rules.specs.Step.{step, fresh}
use Rattle.rules.specs.Run.{run}
use Rattle.merge_verdict.specs.Clocks.{SameLogs, clocks, Timely}
use Rattle.any_list.specs.Arrays.{table}
use Rattle.any_search.specs.Places.{from}
use Rattle.run_difference.specs.declared.Parting.{Parting}
use Rattle.run_difference.specs.Difference.{difference}
use Rattle.log_read.specs.Log.{Row}
use Rattle.log_records.specs.Rows.{no_row, steps_of, merged}

-- ---- which record stands at a place of the exchanged merge

-- y is moved up, to right before x.
abbrev pub moved_up : ℕ → ℕ → ℕ → ℕ
moved_up x y i = cond (ltb i x) i (cond (eqb i x) y (cond (leb i y) (i - 1) i))

-- x is moved down, to right behind y.
abbrev pub moved_down : ℕ → ℕ → ℕ → ℕ
moved_down x y i = cond (ltb i x) i (cond (ltb i y) (i + 1) (cond (eqb i y) x i))

abbrev pub moved : Bool → ℕ → ℕ → ℕ → ℕ
moved true x y i = moved_up x y i
moved false x y i = moved_down x y i

abbrev pub exchanged : Bool → ℕ → ℕ → List Row → List Row
exchanged up x y rows = table (length rows) (λ i. get_or rows (moved up x y i) no_row)

-- ---- whether the clocks allow it: every record that is passed is of another log, and its time allows the other order

-- Record m, which is moved, and record z, which it passes.
abbrev pub may_pass : ℕ → Bool → Row → Row → Bool
may_pass bound true m z = not (eqb z.logged.log m.logged.log) && leb m.logged.time (z.logged.time + bound)
may_pass bound false m z = not (eqb z.logged.log m.logged.log) && leb z.logged.time (m.logged.time + bound)

abbrev pub allowed : ℕ → List Row → Bool → ℕ → ℕ → Bool
allowed bound rows true x y = all (λ z. may_pass bound true (get_or rows y no_row) (get_or rows z no_row)) (from x (y - x))
allowed bound rows false x y = all (λ z. may_pass bound false (get_or rows x no_row) (get_or rows z no_row)) (from (suc x) (y - x))

-- Such an exchange makes of a merge that the clocks allow another merge of the same logs that they allow.
abbrev pub ExchangeAllowed : Type 0
ExchangeAllowed = (bound : ℕ) (rows : List Row) (up : Bool) (x y : ℕ) → x < y → y < length rows → allowed bound rows up x y ≡ true → Timely (clocks bound) (merged rows)
    → SameLogs (merged rows) (merged (exchanged up x y rows)) × Timely (clocks bound) (merged (exchanged up x y rows))

-- ---- what it does to the history

abbrev pub history_of : ℕ → List Row → List Write
history_of count rows = (run step (fresh count) (steps_of rows)).state.history

abbrev pub parting_of : ℕ → List Row → Bool → ℕ → ℕ → Option Parting
parting_of count rows up x y = difference (history_of count rows) (history_of count (exchanged up x y rows))
