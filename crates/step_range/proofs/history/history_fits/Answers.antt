use Rattle.std.proofs.Common.{ℕ, ◌≡◌, ◌+◌, ◌-◌, ◌<◌, ◌≤◌, Bool, List, length, take, drop, get_or, refl, ◌∙◌, arith, length-take, get_or-take, get_or-drop, lt-ltb, le-ltb, eq-eqb, ne_eqb}
use Rattle.rules.specs.Range.{each}
use Rattle.step_parts.specs.declared.Write.{Write}
use Rattle.step_state.specs.Hold.{no_write}
use Rattle.step_state.specs.Tidy.{blank_write}
use Rattle.step_range_queues.specs.Tests.{place, places_test}
use Rattle.step_range_queues.specs.Each.{from-result, each_more, places-not}
use Rattle.step_range.specs.Tests.{write_test, history_test}
use Rattle.step_range.proofs.history.history_fits.Goals as goal
use Rattle.step_range.proofs.history.history_fits.Goals.{Start, then-e-ne0-via-then-e-ne0, then-e-ne0-via-else-e-ne0+then-e-ne0-2}

abbrev place_in : Start → ℕ → Bool
place_in c = place (write_test c.args.count) blank_write no_write c.args.h.items c.args.h.len

-- what is read of the places in use, and of those behind them
in_use : (items : List Write) (len i : ℕ) → i < length (take len items) → (i < len) × (get_or (take len items) i no_write ≡ get_or items i no_write)
in_use items len i h =
    let k : i < len = omega (arith, length-take len items) in (k, get_or-take len items i no_write k)

behind : (items : List Write) (len i : ℕ) → i < length (take (length items - len) (drop len items)) → (len + i < length items) × (get_or (take (length items - len) (drop len items)) i no_write ≡ get_or items (len + i) no_write)
behind items len i h =
    let k : i < length items - len = omega (arith, length-take (length items - len) (drop len items)) in
    (omega arith, get_or-take (length items - len) (drop len items) i no_write k ∙ get_or-drop len items i no_write)

pub loop-e-init : goal.loop-e-init
unfolding each
loop-e-init c = refl

pub loop-e-preserved : goal.loop-e-preserved
loop-e-preserved c =
    let h = c.args.h in
    let r = in_use h.items h.len c.loop-e.e-index c.loop-e-test.true in
    each_more (place_in (goal.at.loop-e-preserved c).Start) c.loop-e.e-index c.loop-e.invariant
    (rw (lt-ltb _ _ r.0, ← r.1) (from-result c.write_fits.ensures c.if-not-write_fits.false))

pub returns-then-not-write_fits : goal.returns-then-not-write_fits
unfolding history_test places_test
returns-then-not-write_fits c =
    let h = c.args.h in
    let r = in_use h.items h.len c.loop-e.e-index c.loop-e-test.true in
    places-not (place_in (goal.at.returns-then-not-write_fits c).Start) 1024 h.len c.if-h-gt-HISTORY_LENGTH.false c.loop-e.e-index (omega arith)
    (rw (lt-ltb _ _ r.0, ← r.1) (from-result c.write_fits.ensures c.if-not-write_fits.true))

pub returns-then-e-ne0 : goal.returns-then-e-ne0
unfolding history_test places_test blank_write
returns-then-e-ne0 c =
    let h = c.args.h in
    let r = behind h.items h.len c.loop-e-2.e-index c.loop-e-2-test.true in
    let n : length h.items ≡ 1024 = (omega arith) in
    let out : h.len ≤ h.len + c.loop-e-2.e-index = omega arith in
    places-not (place_in (goal.at.returns-then-e-ne0 c).Start) 1024 h.len c.if-h-gt-HISTORY_LENGTH.false (h.len + c.loop-e-2.e-index) (omega arith)
    (rw (le-ltb _ _ out, ← r.1) (elim c.then-e-ne0.branch [
      | then-e-ne0-via-then-e-ne0 w ↦ simp (ne_eqb _ _ w.if-e-ne0.true)
      | then-e-ne0-via-else-e-ne0+then-e-ne0-2 w ↦ simp (eq-eqb _ _ w.if-e-ne0.false, ne_eqb _ _ w.if-e-ne0-2.true)
    ]))

pub loop-e-2-preserved : goal.loop-e-2-preserved
unfolding blank_write
loop-e-2-preserved c =
    let h = c.args.h in
    let r = behind h.items h.len c.loop-e-2.e-index c.loop-e-2-test.true in
    let out : h.len ≤ h.len + c.loop-e-2.e-index = omega arith in
    let next : h.len + (c.loop-e-2.e-index + 1) ≡ h.len + c.loop-e-2.e-index + 1 = omega arith in
    rw next (each_more (place_in (goal.at.loop-e-2-preserved c).Start) (h.len + c.loop-e-2.e-index) c.loop-e-2.invariant
    (rw (le-ltb _ _ out, ← r.1) (simp (eq-eqb _ _ c.if-e-ne0.false, eq-eqb _ _ c.if-e-ne0-2.false))))
