-- What is read from the bytes of a run, and what is printed, is the history of the run. Assumes nothing.
use Rattle.std.specs.Prelude.{◌≡◌, refl, Bool, true, false, cond, List, [], ◌∷◌, ◌++◌, ℕ, ◌+◌, ◌-◌, ◌<◌, length, drop, eqb, leb}
use Rattle.std.proofs.Common.{sym, ap, ap₂, ◌∙◌, append_assoc, arith, drop_at, eq-eqb}
use mathlib.Core.List.Memᴰ
use Rattle.rules.specs.Codes.{out_too_short}
use Rattle.rules.specs.State.{Write}
use Rattle.rules.specs.Step.{Event}
use Rattle.rules_laws.specs.Tests.{is_eq}
use Rattle.any_list.specs.Arrays.{table}
use Rattle.any_list.specs.Tables.{table_of}
use Rattle.run_lists.specs.EventList.{node_count, record_count, records, refusal, need, length_fits, trailer_fits, nodes_fit, sum_fits, history_bytes}
use Rattle.run_lists.specs.Good.{good}
use Rattle.run.specs.Ran.{history_room, no_writes, run_refusal, whole_run, completed, ran}
use Rattle.run_lists.specs.Written.{entry_read}
use Rattle.run_lists.specs.Entries.{entry_at, no_write}
use Rattle.run_text.specs.Transcript.{transcript}
use Rattle.run.specs.Whole.{all-answered}
use Rattle.rules_oldmaster.specs.KeptOut.{KeptOut}
use Rattle.rules_oldmaster.specs.Growing.{nothing-before}
use Rattle.rules_oldmaster.proofs.OldMaster.{kept_out}
use Rattle.run_oldmaster.specs.Numbers.{same_writes}
use Rattle.run_oldmaster.specs.Held.{writes_returned, history_part, writes_held, BytesKeptOut, PrintedKeptOut}

-- ---- the entries

writes-read : (ws : List Write) (l : List ℕ) → table (length ws) (entry_at (history_bytes ws ++ l)) ≡ ws
writes-read ws l = sym (table_of (length ws) (entry_at (history_bytes ws ++ l)) ws no_write refl (λ i h. sym (entry_read ws l i h)))

-- ---- a refused run has written nothing

need-low : (test : Bool) (code answer : ℕ) → code < no_writes → answer < no_writes → need test code answer < no_writes
need-low true code answer h k = k
need-low false code answer h k = h

refusal-low : (list : List ℕ) → refusal list < no_writes
unfolding refusal
refusal-low list =
    need-low (length_fits list) _ _ (omega arith) (need-low (trailer_fits list) _ _ (omega arith)
    (need-low (nodes_fit list) _ _ (omega arith) (need-low (sum_fits list) _ _ (omega arith) (omega arith))))

-- No code is as large as what a run without writes returns.
run-refusal-low : (list out : List ℕ) → run_refusal list out < no_writes
unfolding run_refusal
run-refusal-low list out = go (eqb (refusal list) 0)
  where
    go : (b : Bool) → cond b (need (leb (record_count list + history_room) (length out)) out_too_short 0) (refusal list) < no_writes
    go true = need-low (leb (record_count list + history_room) (length out)) _ _ (omega arith) (omega arith)
    go false = refusal-low list

none-kept-out : (count : ℕ) (es : List Event) → KeptOut count es []
none-kept-out count es = record {
  never-falls = tt;
  one-node = λ x y p. absurd (Memᴰ.not-nil p);
  named = λ w p. absurd (Memᴰ.not-nil p);
  no_other = λ w p. absurd (Memᴰ.not-nil p);
  accepted = λ old new w e. let n = nothing-before old (w ∷ new) e in let z : ◌≡◌ {A = ℕ} 0 1 = cc in absurd (omega arith);
}

-- ---- a run that is not refused

held : (list out : List ℕ) → refusal list ≡ 0 → writes_held list (completed (whole_run list) out) ≡ (whole_run list).state.history
held list out accepted =
    let t = whole_run list in
    let r = completed t out in
    let b = history_bytes t.state.history in
    let rest = drop (length (t.answer ++ b)) out in
    let kept : writes_returned r ≡ length t.state.history = omega arith in
    let part : history_part list r ≡ b ++ rest = ap (drop (record_count list)) (append_assoc t.answer b rest) ∙ drop_at t.answer (b ++ rest) (record_count list) (all-answered list (good list accepted)) in
    ap₂ (λ (n : ℕ) (l : List ℕ). table n (entry_at l)) kept part ∙ writes-read t.state.history rest

-- ---- the statements

pub bytes-kept-out : BytesKeptOut
unfolding ran run_refusal
bytes-kept-out list out = go (eqb (run_refusal list out) 0) refl
  where
    list-good : (b : Bool) → eqb (refusal list) 0 ≡ b → cond b (need (leb (record_count list + history_room) (length out)) out_too_short 0) (refusal list) ≡ 0 → refusal list ≡ 0
    list-good true i e = (is_eq (refusal list) 0).to (rw i tt)
    list-good false i e = e

    go : (b : Bool) → eqb (run_refusal list out) 0 ≡ b
        → KeptOut (node_count list) (records list) (writes_held list (cond b (completed (whole_run list) out) (record { returned = run_refusal list out; out = out })))
    go true i = let accepted = list-good (eqb (refusal list) 0) refl ((is_eq (run_refusal list out) 0).to (rw i tt)) in rw (held list out accepted) (kept_out (node_count list) (records list))
    go false i = let low = run-refusal-low list out in let none : run_refusal list out - no_writes ≡ 0 = omega arith in rw none (none-kept-out (node_count list) (records list))

pub printed-kept-out : PrintedKeptOut
unfolding transcript
printed-kept-out list answers writes accepted printed =
    let same = same_writes list (whole_run list).answer answers (whole_run list).state.history writes (sym (simp (eq-eqb (refusal list) 0 accepted)) ∙ printed) in
    rw (← same) (kept_out (node_count list) (records list))
