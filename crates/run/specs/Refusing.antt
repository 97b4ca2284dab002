-- What a run gives, by the tests that the code makes. Assumes nothing.
use Rattle.std.specs.Prelude.{◌≡◌, ◌≢◌, List, ℕ, ◌+◌, ◌≤◌, ◌<◌, length}
use borrow.Author.Tests.{eq-eqb, ne_eqb, le-leb, lt-leb}
use Rattle.rules.specs.Codes.{out_too_short}
use Rattle.run_lists.specs.EventList.{record_count, refusal}
use Rattle.run.specs.Ran.{history_room, run_refusal, whole_run, completed, ran}

module _ (list out : List ℕ) where
  pub ran-refused : refusal list ≢ 0 → ran list out ≡ record { returned = refusal list; out = out }
  unfolding ran run_refusal
  ran-refused h = simp (ne_eqb (refusal list) 0 h)

  module _ (good : refusal list ≡ 0) where
    pub ran-short : length out < record_count list + history_room → ran list out ≡ record { returned = out_too_short; out = out }
    unfolding ran run_refusal
    ran-short h = simp (eq-eqb (refusal list) 0 good, lt-leb (record_count list + history_room) (length out) h)

    pub ran-all : record_count list + history_room ≤ length out → ran list out ≡ completed (whole_run list) out
    unfolding ran run_refusal
    ran-all h = simp (eq-eqb (refusal list) 0 good, le-leb (record_count list + history_room) (length out) h)
