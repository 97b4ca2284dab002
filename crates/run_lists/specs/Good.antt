-- What is known of a list that is not refused, what the code answers of it, and its records one by one. Assumes nothing.
use Rattle.std.specs.Prelude.{◌≡◌, Bool, true, false, List, ℕ, ◌+◌, ◌*◌, ◌<◌, T, length, take}
use Rattle.std.proofs.Common.{add-one, arith, take-suc, take_all}
use Rattle.rules.specs.Limits.{most_nodes}
use Rattle.rules.specs.Codes.{bad_length, bad_mark, bad_node_count, bad_extent}
use Rattle.rules.specs.Queues.{push}
use Rattle.rules.specs.Step.{Event}
use Rattle.rules_laws.specs.InRange.{Within}
use Rattle.rules_laws.specs.Tests.{is_within, is_eq}
use Rattle.any_list.specs.Tables.{table-length, table-get}
use Rattle.run_lists.specs.EventList.{trailer_length, longest, first_record, record_count, node_count, need, length_fits, trailer_fits, nodes_fit, sum_fits, refusal, record_at, records}

pub record Good (l : List ℕ) : Type 0 where
  pub size : Within trailer_length longest (length l)
  pub nodes : Within 1 most_nodes (node_count l)
  pub sum : first_record l + 2 * record_count l + trailer_length ≡ length l

all_hold : (a b c d : Bool) → need a bad_length (need b bad_mark (need c bad_node_count (need d bad_extent 0))) ≡ 0 → T a × T b × T c × T d
all_hold false b c d e = absurd (omega arith)
all_hold true false c d e = absurd (omega arith)
all_hold true true false d e = absurd (omega arith)
all_hold true true true false e = absurd (omega arith)
all_hold true true true true e = (tt, tt, tt, tt)

pub good : (l : List ℕ) → refusal l ≡ 0 → Good l
unfolding refusal
good l e =
    let t = all_hold (length_fits l) (trailer_fits l) (nodes_fit l) (sum_fits l) e in
    record { size = (is_within _ _ _).to t.0; nodes = (is_within _ _ _).to t.2; sum = (is_eq _ _).to t.3 }

-- Its trailer ends as it must.
pub good-ends : (l : List ℕ) → refusal l ≡ 0 → T (trailer_fits l)
unfolding refusal
good-ends l e = (all_hold (length_fits l) (trailer_fits l) (nodes_fit l) (sum_fits l) e).1

-- ---- the records that a loop has passed

pub records-length : (l : List ℕ) → length (records l) ≡ record_count l
records-length l = table-length (record_count l) (record_at l)

pub records-more : (l : List ℕ) (i : ℕ) → i < record_count l → take (i + 1) (records l) ≡ push (record_at l i) (take i (records l))
unfolding push
records-more l i h =
    let none : Event = record { kind = 0; node = 0 } in
    let n = records-length l in
    rw (add-one i, take-suc (records l) i none (omega arith), table-get (record_count l) (record_at l) i none h)

pub records-all : (l : List ℕ) → take (record_count l) (records l) ≡ records l
records-all l = take_all (record_count l) (records l) (let n = records-length l in omega arith)
