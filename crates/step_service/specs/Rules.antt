-- The rules 1 and 2 by the tests that the code makes. Assumes nothing.
use Rattle.std.specs.Prelude.{◌≡◌, refl, ◌≢◌, Bool, true, false, cond, ℕ, ◌≤◌, ◌<◌}
use borrow.Author.Tests.{eq-eqb, ne_eqb, lt-ltb, le-ltb}
use Rattle.rules.specs.Limits.{top_term}
use Rattle.rules.specs.Codes.{step_done, not_allowed, term_limit, queue_full}
use Rattle.rules.specs.State.{Desk}
use Rattle.rules.specs.Queues.{room_all}
use Rattle.rules.specs.Ids.{named}
use Rattle.rules.specs.Part.{done, need, decide}
use Rattle.rules.specs.Rules.{join_rule, leave_rule, vacant, hands_over}
use Rattle.step_state.specs.Reads.{answer_of}

-- where nothing but room is asked for
roomed : {W : Type 0} (b : Bool) (w : W) → cond b step_done queue_full ≡ answer_of (need b queue_full (done step_done w))
roomed true w = refl
roomed false w = refl

module _ (n : ℕ) (d : Desk) where
  pub join-spent : d.service.master ≡ 0 → top_term ≤ d.service.term → term_limit ≡ answer_of (decide (join_rule n) d)
  unfolding decide join_rule vacant
  join-spent e h = simp (eq-eqb d.service.master 0 e, le-ltb d.service.term top_term h)

  pub join-vacant : d.service.master ≡ 0 → d.service.term < top_term → cond (room_all d.events) step_done queue_full ≡ answer_of (decide (join_rule n) d)
  unfolding decide join_rule vacant
  join-vacant e h = simp (eq-eqb d.service.master 0 e, lt-ltb d.service.term top_term h) (roomed (room_all d.events) _)

  pub join-named : d.service.master ≢ 0 → named n d.service ≡ true → not_allowed ≡ answer_of (decide (join_rule n) d)
  unfolding decide join_rule vacant
  join-named e h = simp (ne_eqb d.service.master 0 e, h)

  pub join-backup : d.service.master ≢ 0 → named n d.service ≡ false → cond (room_all d.events) step_done queue_full ≡ answer_of (decide (join_rule n) d)
  unfolding decide join_rule vacant
  join-backup e h = simp (ne_eqb d.service.master 0 e, h) (roomed (room_all d.events) _)

  pub leave-unnamed : named n d.service ≡ false → not_allowed ≡ answer_of (decide (leave_rule n) d)
  unfolding decide leave_rule
  leave-unnamed e = simp e

  pub leave-quiet : named n d.service ≡ true → hands_over n d.service ≡ false → step_done ≡ answer_of (decide (leave_rule n) d)
  unfolding decide leave_rule
  leave-quiet e f = simp (e, f)

  pub leave-spent : named n d.service ≡ true → hands_over n d.service ≡ true → top_term ≤ d.service.term → term_limit ≡ answer_of (decide (leave_rule n) d)
  unfolding decide leave_rule
  leave-spent e f h = simp (e, f, le-ltb d.service.term top_term h)

  pub leave-posts : named n d.service ≡ true → hands_over n d.service ≡ true → d.service.term < top_term
      → cond (room_all d.events) step_done queue_full ≡ answer_of (decide (leave_rule n) d)
  unfolding decide leave_rule
  leave-posts e f h = simp (e, f, lt-ltb d.service.term top_term h) (roomed (room_all d.events) _)
