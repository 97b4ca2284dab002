-- Runs of the merge at hand and of the exchanged one. Assumes nothing.
use Rattle.std.specs.Prelude.{◌≡◌, refl, Bool, true, List, [], ◌∷◌, ℕ, zero, suc, ◌+◌, ◌-◌, ◌≤◌, ◌<◌, length, get_or, drop, Option}
use Rattle.std.proofs.Common.{sym, ap, ap₂, ◌∙◌, arith}
use Rattle.rules.specs.Step.{Event, step, fresh}
use Rattle.rules.specs.Run.{run}
use Rattle.rules_laws.specs.All.{All}
use Rattle.any_list.specs.Arrays.{table}
use Rattle.any_list.specs.Tables.{table_of, table-length}
use Rattle.run.specs.Ran.{no_writes, history_room, ran}
use Rattle.run_difference.specs.declared.Parting.{Parting}
use Rattle.run_difference.specs.Difference.{difference, entries, history}
use Rattle.run_difference.specs.Runs.{Written, written-run}
use Rattle.log_read.specs.declared.Record.{Record}
use Rattle.log_read.specs.Log.{Row}
use Rattle.log_records.specs.Places.{rows-get, rows-length}
use Rattle.log_records.specs.Rows.{no_row, row_at, rows_of, steps_of}
use Rattle.log_exchange.specs.Exchange.{moved, exchanged, history_of, parting_of}
use Rattle.run_lists.specs.Listed.{list_of}
use Rattle.run_lists.specs.Made.{Small, list-good, list_count, list-nodes, list-records}
use Rattle.log_exchange.specs.Moves.{before-both}
use Rattle.log_exchange.specs.Filling.{step_at}

module _ (count : ℕ) (es : List Event) (low : 1 ≤ count) (high : count ≤ 8) (few : length es ≤ 32762) where
  pub ran-list : {n : ℕ} → length es ≡ n → (l before : List ℕ) {after : List ℕ} {returned : ℕ} → l ≡ list_of count es → n + history_room ≤ length before
      → returned ≡ (ran l before).returned → after ≡ (ran l before).out → (no_writes ≤ returned) × Written (list_of count es) n after (returned - no_writes)
  ran-list {n} size l before {after} {returned} is room r o =
      let c = list_count count es low high few ∙ size in
      let w = written-run (list_of count es) before after returned (list-good count es low high few) (omega arith)
      (r ∙ ap (λ (x : List ℕ). (ran x before).returned) is) (o ∙ ap (λ (x : List ℕ). (ran x before).out) is) in
      (w.0, rw c at w.1)

  -- The history of its run is that of the steps.
  pub list-history : All Small es → history (list_of count es) ≡ (run step (fresh count) es).state.history
  list-history small = ap₂ (λ (n : ℕ) (xs : List Event). (run step (fresh n) xs).state.history) (list-nodes count es low high few) (list-records count es low high few small)

-- A run of the merge at hand accepted so many writes, and left this buffer.
abbrev pub AtHand : ℕ → List Record → List ℕ → ℕ → Type 0
AtHand count l after writes = Written (list_of count (table (length l) (step_at l true (length l) (length l)))) (length l) after writes

-- ---- the steps that were put down are those of the merges

map-table : (n : ℕ) (f : ℕ → Row) → steps_of (table n f) ≡ table n (λ i. (f i).logged.event)
map-table zero f = refl
map-table (suc n) f = ap (λ (l : List Event). (f 0).logged.event ∷ l) (map-table n (λ i. f (suc i)))

table_same : (n : ℕ) (f g : ℕ → Event) → ((i : ℕ) → i < n → f i ≡ g i) → table n f ≡ table n g
table_same zero f g h = refl
table_same (suc n) f g h = ap₂ (λ (x : Event) (l : List Event). x ∷ l) (h 0 (omega arith)) (table_same n (λ i. f (suc i)) (λ i. g (suc i)) (λ i k. h (suc i) (omega arith)))

rows-table : (l : List Record) → rows_of l ≡ table (length l) (row_at l)
rows-table l = table_of (length l) (row_at l) (rows_of l) no_row (rows-length l) (λ i h. rows-get l i)

module _ (l : List Record) where
  abbrev n : ℕ
  n = length l

  pub steps-here : table n (step_at l true n n) ≡ steps_of (rows_of l)
  steps-here = table_same n (step_at l true n n) (λ i. (row_at l i).logged.event) (λ i h. ap (λ (k : ℕ). (row_at l k).logged.event) (sym (before-both n n i true h))) ∙ sym (map-table n (row_at l)) ∙ ap steps_of (sym (rows-table l))

  pub steps-moved : (up : Bool) (x y : ℕ) → x < y → y < n → table n (step_at l up x y) ≡ steps_of (exchanged up x y (rows_of l))
  steps-moved up x y a b =
      table_same n (step_at l up x y) (λ i. (get_or (rows_of l) (moved up x y i) no_row).logged.event)
      (λ i h. ap (λ (r : Row). r.logged.event) (sym (rows-get l (moved up x y i))))
      ∙ ap (λ (m : ℕ). table m (λ i. (get_or (rows_of l) (moved up x y i) no_row).logged.event)) (sym (rows-length l))
      ∙ sym (map-table (length (rows_of l)) (λ i. get_or (rows_of l) (moved up x y i) no_row))

-- ---- every step that is moved fits bytes

small_at : (rows : List Row) → All Small (steps_of rows) → (i : ℕ) → Small (get_or rows i no_row).logged.event
small_at [] s i = (omega arith, omega arith)
small_at (r ∷ rows) s zero = s.0
small_at (r ∷ rows) s (suc i) = small_at rows s.1 i

small-table : (n : ℕ) (f : ℕ → Row) → ((i : ℕ) → Small (f i).logged.event) → All Small (steps_of (table n f))
small-table zero f h = tt
small-table (suc n) f h = (h 0, small-table n (λ i. f (suc i)) (λ i. h (suc i)))

-- ---- where the histories part

module _ (count : ℕ) (l : List Record) (low : 1 ≤ count) (high : count ≤ 8) (few : length l ≤ 32762) (small : All Small (steps_of (rows_of l))) where
  size : (f : ℕ → Event) → length (table (length l) f) ≤ 32762
  size f = let z = table-length (length l) f in omega arith

  history-here : history (list_of count (table (length l) (step_at l true (length l) (length l)))) ≡ history_of count (rows_of l)
  history-here =
      ap (λ (es : List Event). history (list_of count es)) (steps-here l)
      ∙ list-history count (steps_of (rows_of l)) low high (let z = ap length (sym (steps-here l)) in let y = size (step_at l true (length l) (length l)) in omega arith) small

  module _ (up : Bool) (x y : ℕ) (a : x < y) (b : y < (length l)) where
    history-moved : history (list_of count (table (length l) (step_at l up x y))) ≡ history_of count (exchanged up x y (rows_of l))
    history-moved =
        ap (λ (es : List Event). history (list_of count es)) (steps-moved l up x y a b)
        ∙ list-history count (steps_of (exchanged up x y (rows_of l))) low high
        (let z = ap length (sym (steps-moved l up x y a b)) in let w = size (step_at l up x y) in omega arith)
        (small-table (length (rows_of l)) (λ i. get_or (rows_of l) (moved up x y i) no_row) (λ i. small_at (rows_of l) small (moved up x y i)))

    pub parting-said : {mine theirs part part' : List ℕ} {w v : ℕ} → AtHand count l mine w → Written (list_of count (table (length l) (step_at l up x y))) (length l) theirs v
        → part ≡ drop (length l) mine → part' ≡ drop (length l) theirs → {d : Option Parting} → d ≡ difference (entries part w) (entries part' v) → d ≡ parting_of count (rows_of l) up x y
    parting-said {w = w} {v = v} p q e f g =
        g ∙ ap₂ difference (ap (λ (k : List ℕ). entries k w) e ∙ p.says ∙ history-here) (ap (λ (k : List ℕ). entries k v) f ∙ q.says ∙ history-moved)
