use Rattle.std.specs.Prelude.{◌≡◌, List, ℕ, ◌+◌, ◌≤◌, ◌-◌, length, take}
use Rattle.std.proofs.Common.{arith}
use Rattle.std.proofs.Math.ListN.{length-replicate}
use Rattle.rules.specs.Step.{Event}
use Rattle.any_list.specs.Arrays.{table}
use Rattle.any_list.specs.Tables.{table-length}
use Rattle.any_text.specs.Put.{Put}
use Rattle.any_text.specs.Puts.{put-read}
use Rattle.run.specs.Ran.{no_writes, history_room, ran}
use Rattle.run_difference.specs.Runs.{Written}
use Rattle.run_lists.specs.Listed.{list_of}
use Rattle.run_lists.specs.Made.{list_length}
use Rattle.log_exchange.specs.Filling.{step_at}
use Rattle.log_exchange.specs.Ran.{ran-list}
use Rattle.log_exchange.proofs.run_moved.Goals as goal

-- The list that was put down is run.
ended : (count n : ℕ) (f : ℕ → Event) → 1 ≤ count → count ≤ 8 → n ≤ 32762 → {before list : List ℕ} {end : ℕ} → Put before 0 (list_of count (table n f)) list end → length before ≡ 65536
    → (out : List ℕ) {after : List ℕ} {returned : ℕ} → n + history_room ≤ length out → returned ≡ (ran (take end list) out).returned → after ≡ (ran (take end list) out).out
    → (no_writes ≤ returned) × Written (list_of count (table n f)) n after (returned - no_writes)
ended count n f low high few put size out room r o =
    let long = table-length n f in
    let short : length (table n f) ≤ 32762 = omega arith in
    let bytes = list_length count (table n f) low high short in
    ran-list count (table n f) low high short long _ out (put-read put (omega arith)) room r o

pub overflow_sub-result : goal.overflow_sub-result
overflow_sub-result c =
    let p = c.requires in
    let m = c.args.merge.now in
    let x = c.args.exchange in
    (ended m.nodes (length m.records.now) (step_at m.records.now x.up x.x x.y) p.1 p.2 p.0 c.put_list-length.ensures.0 (length-replicate {A = ℕ} 65536 0) c.args.out.now p.4 c.run.ensures.0 c.run.ensures.1).0

pub returns : goal.returns
returns c =
    let p = c.requires in
    let m = c.args.merge.now in
    let x = c.args.exchange in
    (ended m.nodes (length m.records.now) (step_at m.records.now x.up x.x x.y) p.1 p.2 p.0 c.put_list-length.ensures.0 (length-replicate {A = ℕ} 65536 0) c.args.out.now p.4 c.run.ensures.0 c.run.ensures.1).1
