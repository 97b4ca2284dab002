use mathlib.Core.Path.{◌≡◌, ap, ◌∙◌}
use mathlib.Core.List.{List, []}
use Prim.Native.Nat.{ℕ, ◌+◌, ◌*◌}
use lib.ListN.{length-set, set}
use native.Mathlib.Omega.{arith}
use Rattle.std.proofs.lemmas.List.Edits.{sets}
use Rattle.rules.specs.State as S
use Rattle.step_state.specs.Stores.{hold_accepted}
use Rattle.run_lists.specs.EventList.{history_bytes}
use Rattle.run.specs.Running.{starts, keeps-length, ready, room-left, goes_on, ends}
use Rattle.run.proofs.run_records.Goals as goal
use Rattle.run.proofs.run_records.Goals.{in-Ok, in-Err}

pub loop-i-init : goal.loop-i-init
loop-i-init c = starts c.args.out.now c.requires c.fresh_body-body.result c.fresh_body-body.ensures

pub advance-requires : goal.advance-requires
advance-requires c = ready c.args.out.now c.requires c.loop-i.invariant

pub keep-writes-requires : goal.keep-writes-requires
keep-writes-requires c =
    let k = c.requires.trailer.records in
    let long = keeps-length c.args.out.now c.requires c.loop-i.invariant (omega arith) in
    let room = c.requires.room in
    (simp length-set (omega arith), room-left c.args.out.now c.requires c.loop-i.invariant c.read_record-event.ensures c.in-Ok.ensures.leaves)

pub loop-i-preserved : goal.loop-i-preserved
unfolding history_bytes
loop-i-preserved c =
    let now = c.loop-i.invariant in
    let is = c.read_record-event.ensures in
    let k = c.requires.trailer.records in
    let kept = λ (l : List S.Write) (code : ℕ). sets (set c.loop-i.out c.loop-i.i code) (c.args.trailer.records + 4 * c.loop-i.writes) (history_bytes l) in
    elim c.match-advance.branch [
      | in-Ok w ↦ goes_on c.args.out.now c.requires now is w.in-Ok.ensures.leaves (omega arith)
          (w.out-is ∙ w.keep-writes.ensures.1 ∙ ap (kept (hold_accepted w.in-Ok.accepted)) w.code.ensures) (w.writes-is ∙ w.keep-writes.ensures.0)
      | in-Err w ↦ goes_on c.args.out.now c.requires now is w.in-Err.ensures.leaves (omega arith)
          (w.out-is ∙ ap (kept []) w.code-in-Err.ensures) (let n = w.writes-is in omega arith)
    ]

pub returns : goal.returns
returns c =
    let all : c.loop-i.i ≡ c.args.trailer.records = omega arith in
    ends c.args.out.now c.requires (rw all at c.loop-i.invariant)
