use Rattle.std.proofs.Common.{◌≡◌}
use Rattle.rules.specs.Range.{within}
use Rattle.any_list.specs.Tests.{tests}
use Rattle.run_lists.specs.EventList.{refusal}
use Rattle.run_lists.specs.Trails.{trails}
use Rattle.run_lists.proofs.read_trailer.Goals as goal
use Rattle.run_lists.proofs.read_trailer.Goals.{then-length-lt-TRAILER_LENGTH-via-then-length-lt-TRAILER_LENGTH, then-length-lt-TRAILER_LENGTH-via-else-length-lt-TRAILER_LENGTH+then-length-gt-LONGEST, then-list-at-ne77-via-then-list-at-ne77, then-list-at-ne77-via-else-list-at-ne77+then-list-at-ne65, then-list-at-ne77-via-else-list-at-ne77+else-list-at-ne65+then-list-at-ne0, then-nodes-lt1-via-then-nodes-lt1, then-nodes-lt1-via-else-nodes-lt1+then-nodes-gt-MOST_NODES}

pub returns-then-length-lt-TRAILER_LENGTH : goal.returns-then-length-lt-TRAILER_LENGTH
unfolding refusal within
returns-then-length-lt-TRAILER_LENGTH c =
    elim c.then-length-lt-TRAILER_LENGTH.branch [ then-length-lt-TRAILER_LENGTH-via-then-length-lt-TRAILER_LENGTH w ↦ search tests | then-length-lt-TRAILER_LENGTH-via-else-length-lt-TRAILER_LENGTH+then-length-gt-LONGEST w ↦ search tests ]

pub returns-then-list-at-ne77 : goal.returns-then-list-at-ne77
unfolding refusal within
returns-then-list-at-ne77 c =
    elim c.then-list-at-ne77.branch [ then-list-at-ne77-via-then-list-at-ne77 w ↦ search tests | then-list-at-ne77-via-else-list-at-ne77+then-list-at-ne65 w ↦ search tests | then-list-at-ne77-via-else-list-at-ne77+else-list-at-ne65+then-list-at-ne0 w ↦ search tests ]

pub returns-then-nodes-lt1 : goal.returns-then-nodes-lt1
unfolding refusal within
returns-then-nodes-lt1 c =
    elim c.then-nodes-lt1.branch [ then-nodes-lt1-via-then-nodes-lt1 w ↦ search tests | then-nodes-lt1-via-else-nodes-lt1+then-nodes-gt-MOST_NODES w ↦ search tests ]

pub returns-then-first-records : goal.returns-then-first-records
unfolding refusal within
returns-then-first-records c =
    search (tests, ← c.number_at-records.ensures.0, ← c.number_at-first.ensures.0)

pub returns : goal.returns
unfolding refusal within
returns c =
    let none : refusal c.args.list.now ≡ 0 = search (tests, ← c.number_at-records.ensures.0, ← c.number_at-first.ensures.0) in
    rw (c.number_at-records.ensures.0, c.number_at-first.ensures.0) (trails c.args.list.now none)
