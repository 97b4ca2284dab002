-- The two merges of `specs/Merged` run the same. Assumes nothing.
use Rattle.std.specs.Prelude.{List, ℕ, ◌≤◌, length}
use Rattle.run_lists.specs.EventList.{number_at}
use Rattle.run_exchange.specs.SameRun.{SameRun}
use Rattle.run_exchange.specs.Merged.{late, early, exchanges, remerged}
use Rattle.run_exchange.proofs.Audit.{audit}

pub merged : (out : List ℕ) → 4108 ≤ length out → SameRun late early exchanges out
unfolding number_at
merged out h = audit late early exchanges out remerged h
