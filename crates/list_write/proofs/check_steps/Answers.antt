use mathlib.Core.Path.{◌≡◌, refl, sym, ap, ◌∙◌}
use Rattle.std.proofs.Common.{arith, List, ℕ, [], ◌∷◌, ◌++◌, ◌+◌, ◌*◌, ◌-◌, ◌/◌, ◌<◌, suc, length, drop, get_or}
use Rattle.std.proofs.Math.Seq.{drop-cons}
use Rattle.std.proofs.lemmas.List.{drop_all}
use Rattle.std.proofs.lemmas.Result.{err_from_is_err_and}
use Rattle.list_write.specs.Write.{steps_in, first_fault}
use Rattle.step_parts.specs.Refusals.{code-some}
use Rattle.list_write.specs.Steps.{good-step, bad-step}
use Rattle.list_write.proofs.check_steps.Goals as goal
use Rattle.list_write.proofs.check_steps.Goals.{After-loop-i}

-- The bytes from an even place on: those of one step, and those of the others.
step-first : (l : List ℕ) (i : ℕ) → 2 * i + 1 < length l → drop (2 * i) l ≡ (get_or l (2 * i) 0 ∷ get_or l (2 * i + 1) 0 ∷ []) ++ drop (2 * (i + 1)) l
step-first l i h =
    let a : suc (2 * i) ≡ 2 * i + 1 = omega arith in
    let b : suc (2 * i + 1) ≡ 2 * (i + 1) = omega arith in
    drop-cons l (2 * i) 0 (omega arith) ∙ rw a (ap (λ (r : List ℕ). get_or l (2 * i) 0 ∷ r) (drop-cons l (2 * i + 1) 0 h ∙ rw b refl))

-- A last byte that is alone.
last-alone : (l : List ℕ) (j : ℕ) → length l ≡ j + 1 → drop j l ≡ (get_or l j 0 ∷ []) ++ []
last-alone l j h = drop-cons l j 0 (omega arith) ∙ ap (λ (r : List ℕ). get_or l j 0 ∷ r) (drop_all (suc j) l (omega arith))

-- What the loop has left.
left : (c : After-loop-i) → (j : ℕ) → j ≡ 2 * (length c.args.steps.now / 2) → first_fault c.args.nodes (steps_in (drop j c.args.steps.now)) ≡ first_fault c.args.nodes (steps_in c.args.steps.now)
left c j e =
    let l = c.args.steps.now in
    let all : j ≡ 2 * c.loop-i.i = omega arith in
    ap (λ (k : ℕ). first_fault c.args.nodes (steps_in (drop k l))) all ∙ c.loop-i.invariant

pub returns-in_err-check_step : goal.returns-in_err-check_step
returns-in_err-check_step c =
    let l = c.args.steps.now in
    let i = c.loop-i.i in
    let p = step-first l i (omega arith) in
    let n = ap length p in
    let r = err_from_is_err_and c.from_residual.result c.from_residual.ensures.1 in
    rw (r.1, r.2)
    (bad-step c.args.nodes l (drop (2 * i) l) (get_or l (2 * i) 0 ∷ get_or l (2 * i + 1) 0 ∷ []) (drop (2 * (i + 1)) l) p (omega arith) (omega arith) c.loop-i.invariant
    c.in_err-check_step.ensures (let z = code-some c.in_err-check_step.field-0.0 in omega arith))

pub loop-i-preserved : goal.loop-i-preserved
loop-i-preserved c =
    let l = c.args.steps.now in
    let i = c.loop-i.i in
    let p = step-first l i (omega arith) in
    let n = ap length p in
    good-step c.args.nodes l (drop (2 * i) l) (get_or l (2 * i) 0 ∷ get_or l (2 * i + 1) 0 ∷ []) (drop (2 * (i + 1)) l) p (omega arith) (omega arith) c.loop-i.invariant c.in_ok-check_step.ensures

pub returns-in_err-check_step-2 : goal.returns-in_err-check_step-2
returns-in_err-check_step-2 c =
    let l = c.args.steps.now in
    let j = length l - 1 in
    let p = last-alone l j (omega arith) in
    let n = ap length p in
    let r = err_from_is_err_and c.from_residual-in_err-check_step-2.result c.from_residual-in_err-check_step-2.ensures.1 in
    rw (r.1, r.2)
    (bad-step c.args.nodes l (drop j l) (get_or l j 0 ∷ []) [] p (omega arith) (omega arith) (left (goal.at.returns-in_err-check_step-2 c).After-loop-i j (omega arith))
    c.in_err-check_step-2.ensures (let z = code-some c.in_err-check_step-2.field-0.0 in omega arith))

pub returns-in_ok-check_step-2 : goal.returns-in_ok-check_step-2
unfolding steps_in first_fault
returns-in_ok-check_step-2 c =
    let l = c.args.steps.now in
    let j = length l - 1 in
    let p = last-alone l j (omega arith) in
    let n = ap length p in
    good-step c.args.nodes l (drop j l) (get_or l j 0 ∷ []) [] p (omega arith) (omega arith) (left (goal.at.returns-in_ok-check_step-2 c).After-loop-i j (omega arith)) c.in_ok-check_step-2.ensures

pub returns-else-steps-eq1 : goal.returns-else-steps-eq1
unfolding steps_in first_fault
returns-else-steps-eq1 c =
    let l = c.args.steps.now in
    ap (λ (r : List ℕ). first_fault c.args.nodes (steps_in r)) (sym (drop_all (length l) l (omega arith))) ∙ left (goal.at.returns-else-steps-eq1 c).After-loop-i (length l) (omega arith)
