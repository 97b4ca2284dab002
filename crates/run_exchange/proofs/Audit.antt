-- Claim 3 for the bytes that users hold: runs of lists that differ by exchanges of independent neighbours are the same. Assumes nothing.
use Rattle.std.specs.Prelude.{◌≡◌, refl, List, ℕ, ◌+◌, ◌*◌, ◌≤◌, length, take, drop}
use Rattle.std.proofs.Common.{sym, ap, ap₂, ◌∙◌, arith}
use Rattle.rules.specs.State.{State, Write}
use Rattle.rules.specs.Part.{Result}
use Rattle.rules.specs.Step.{Event, step, fresh}
use Rattle.rules.specs.Run.{run}
use Rattle.rules_laws.specs.Steps.{fresh-fits}
use Rattle.rules_laws.specs.Runs.{run_length}
use Rattle.rules_exchange.specs.Claim.{swaps, Exchanged}
use Rattle.rules_exchange.proofs.Exchange.{exchange}
use Rattle.run_lists.specs.EventList.{node_count, record_count, records, refusal, history_bytes}
use Rattle.run_lists.specs.Good.{good, records-length}
use Rattle.run_lists.specs.Written.{history-length}
use Rattle.run.specs.Ran.{history_room, whole_run, Ran, ran}
use Rattle.run.specs.Refusing.{ran-all}
use Rattle.run_exchange.specs.SameRun.{Remerged, history_size, Audited}
use Rattle.run_exchange.specs.Exchanges.{swaps-length}
use Rattle.run_exchange.specs.Buffers.{first_piece, second-piece, what-stays}

-- ---- the buffer that one run leaves

-- After `total` answers and `size` bytes of history.
record Filled (list out : List ℕ) (total size : ℕ) : Type 0 where
  answers : take total (ran list out).out ≡ (whole_run list).answer
  entries : take size (drop total (ran list out).out) ≡ history_bytes (whole_run list).state.history
  rest : drop (total + size) (ran list out).out ≡ drop (total + size) out

filled : (list out : List ℕ) → refusal list ≡ 0 → record_count list + history_room ≤ length out
    → {total size : ℕ} → record_count list ≡ total → history_size list ≡ size → Filled list out total size
filled list out accepted room {total} {size} c s =
    let t = whole_run list in
    let b = history_bytes t.state.history in
    let done = ran-all list out accepted room in
    let n = run_length step (fresh (node_count list)) (records list) ∙ records-length list ∙ c in
    let m = history-length t.state.history ∙ s in
    record {
      answers = ap (λ (x : Ran). take total x.out) done ∙ first_piece t.answer b out n m;
      entries = ap (λ (x : Ran). take size (drop total x.out)) done ∙ second-piece t.answer b out n m;
      rest = ap (λ (x : Ran). drop (total + size) x.out) done ∙ what-stays t.answer b out n m;
    }

-- ---- two runs

module _ {list other is : List ℕ} (r : Remerged list other is) where
  same-records : record_count other ≡ record_count list
  same-records = sym (records-length other) ∙ ap length r.exchanged ∙ swaps-length is (records list) ∙ records-length list

  runs_as : whole_run other ≡ run step (fresh (node_count list)) (swaps is (records list))
  runs_as = ap₂ (λ (n : ℕ) (es : List Event). run step (fresh n) es) r.nodes r.exchanged

  steps : Exchanged (fresh (node_count list)) (records list) is
  unfolding fresh
  steps = let n = (good list r.accepted).nodes in exchange (fresh (node_count list)) (records list) is (fresh-fits (node_count list) n.lower n.upper) r.allowed

  same-state : (whole_run other).state ≡ (whole_run list).state
  same-state = ap (λ (t : Result (List ℕ) State). t.state) runs_as ∙ steps.state

  same-answers : (whole_run other).answer ≡ swaps is (whole_run list).answer
  same-answers = ap (λ (t : Result (List ℕ) State). t.answer) runs_as ∙ steps.answers

pub audit : Audited
audit list other is out r room =
    let n = same-records r in
    let room' : record_count other + history_room ≤ length out = omega arith in
    let h = ap (λ (t : State). t.history) (same-state r) in
    let f = filled list out r.accepted room refl refl in
    let f' = filled other out r.accepted' room' n (ap (λ (l : List Write). 4 * length l) h) in
    record {
      state = same-state r;
      history = h;
      returned = rw (ran-all list out r.accepted room, ran-all other out r.accepted' room', h);
      answers = f'.answers ∙ same-answers r ∙ ap (swaps is) (sym f.answers);
      entries = f'.entries ∙ ap history_bytes h ∙ sym f.entries;
      rest = f.rest;
      rest' = f'.rest;
    }
