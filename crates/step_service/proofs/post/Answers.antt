use Rattle.std.proofs.Common.{◌≡◌, ◌++◌, ℕ, suc, zero, List, [], ◌∷◌, take, drop, length-take-le, refl, ap, ◌∙◌, arith}
use Rattle.any_list.specs.Rows.{map_first, map_first-step}
use Rattle.step_state.specs.Order.{past_controller}
use Rattle.step_state.specs.declared.Controller.{Controller}
use Rattle.step_service.specs.Asks.{hears}
use Rattle.step_service.specs.Posting.{controller-rows, all-heard}
use Rattle.step_service.proofs.post.Goals as goal

-- the first n rows, and those behind them
front : (f : Controller → Controller) (n : ℕ) (l : List Controller) → map_first f n (take n l) ++ drop n l ≡ map_first f n l
front f zero l = refl
front f (suc n) [] = refl
front f (suc n) (x ∷ l) = ap (λ (t : List Controller). f x ∷ t) (front f n l)

pub loop-controller-init : goal.loop-controller-init
loop-controller-init c = refl

pub loop-controller-preserved : goal.loop-controller-preserved
loop-controller-preserved c =
    let l = c.loop-controller in
    map_first-step (hears c.args.m) l.controller-index (take c.args.count c.args.controllers.now) l.controller-items past_controller c.hear.result l.invariant c.hear.ensures (omega arith)

pub returns : goal.returns
returns c =
    let a = c.args in
    let n = controller-rows a.count a.controllers.now c.requires.0 in
    let f = c.requires.0.few in
    let k = length-take-le a.count a.controllers.now (omega arith) in
    let all : c.loop-controller.controller-index ≡ a.count = omega arith in
    ap (λ (l : List Controller). l ++ drop a.count a.controllers.now)
    (c.loop-controller.invariant ∙ ap (λ (i : ℕ). map_first (hears a.m) i (take a.count a.controllers.now)) all)
    ∙ front (hears a.m) a.count a.controllers.now
    ∙ all-heard a.count a.controllers.now c.requires.0 a.m c.requires.1 c.requires.2
