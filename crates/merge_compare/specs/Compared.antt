-- What comparing two lists of bytes gives.
use Rattle.std.specs.Prelude.{cond, List, ℕ, eqb, Result, Ok, Err}
use Rattle.run_lists.specs.EventList.{node_count, record_count, record_at, refusal}
use Rattle.run_lists.specs.Reads.{refusal_of}
use Rattle.any_search.specs.Places.{from}
use Rattle.merge_compare.specs.Compare.{compare}
use Rattle.merge_compare.specs.declared.Verdict.{Verdict}
use Rattle.merge_compare.specs.declared.Refused.{Refused}
use Rattle.merge_compare.specs.declared.Refused.TheVariants as W

-- All records of the one list with all of the other.
abbrev pub comparison : List ℕ → List ℕ → Verdict
comparison first second = compare (node_count first) (record_at first) (record_at second) (from 0 (record_count first)) (from 0 (record_count second))

-- The first refusal counts, in this order.
unfoldable pub compared : List ℕ → List ℕ → Result Verdict Refused
compared first second =
    cond (eqb (refusal first) 0)
    (cond (eqb (refusal second) 0)
    (cond (eqb (node_count first) (node_count second))
    (Ok (comparison first second))
    (Err W.NodesDiffer))
    (Err (W.Second (refusal_of (refusal second)))))
    (Err (W.First (refusal_of (refusal first))))
