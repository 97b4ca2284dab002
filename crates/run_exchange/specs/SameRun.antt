-- What two lists of bytes have in common when run, where their records differ by exchanges of independent neighbours. `Audit` proves it. Assumes nothing.
use Rattle.std.specs.Prelude.{◌≡◌, List, ℕ, ◌+◌, ◌*◌, ◌≤◌, T, length, take, drop}
use Rattle.rules_exchange.specs.Independent.{independent}
use Rattle.rules_exchange.specs.Claim.{swaps, Allowed}
use Rattle.run_lists.specs.EventList.{node_count, record_count, records, refusal}
use Rattle.run.specs.Ran.{history_room, whole_run, ran}

-- The reader accepts both lists, their node counts are the same, and the records of the second are those of the first, exchanged at the places `is`, each
-- time two neighbours that are independent. Notes may differ.
pub record Remerged (list other : List ℕ) (is : List ℕ) : Type 0 where
  pub accepted : refusal list ≡ 0
  pub accepted' : refusal other ≡ 0
  pub nodes : node_count other ≡ node_count list
  pub exchanged : records other ≡ swaps is (records list)
  pub allowed : Allowed (λ e f. T (independent (node_count list) e f)) is (records list)

-- How many bytes the history takes in the buffer: four for each write.
abbrev pub history_size : List ℕ → ℕ
history_size list = 4 * length (whole_run list).state.history

-- Both lists are run, each with a buffer that holds `out`.
pub record SameRun (list other : List ℕ) (is out : List ℕ) : Type 0 where
  -- The last state is the same, and with it the history of accepted writes.
  pub state : (whole_run other).state ≡ (whole_run list).state
  pub history : (whole_run other).state.history ≡ (whole_run list).state.history
  -- The same number is returned.
  pub returned : (ran other out).returned ≡ (ran list out).returned
  -- The answer bytes are exchanged at the same places: each record has the answer that it had.
  pub answers : take (record_count list) (ran other out).out ≡ swaps is (take (record_count list) (ran list out).out)
  -- The bytes of the history, right behind the answers, are the same.
  pub entries : take (history_size list) (drop (record_count list) (ran other out).out) ≡ take (history_size list) (drop (record_count list) (ran list out).out)
  -- The bytes after the history stay, in both buffers.
  pub rest : drop (record_count list + history_size list) (ran list out).out ≡ drop (record_count list + history_size list) out
  pub rest' : drop (record_count list + history_size list) (ran other out).out ≡ drop (record_count list + history_size list) out

-- For any two such lists, any exchanges, and any buffer that is long enough.
abbrev pub Audited : Type 0
Audited = (list other is out : List ℕ) → Remerged list other is → record_count list + history_room ≤ length out → SameRun list other is out
