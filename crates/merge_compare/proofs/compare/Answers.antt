use Rattle.std.proofs.Common.{ap₂, sym, ◌∙◌}
use Rattle.run_lists.specs.Trails.{Trails, trails-same}
use Rattle.merge_compare.specs.Compared.{comparison}
use Rattle.merge_compare.specs.Refusing.{as-first, as-second, as-good, nodes-differ}
use Rattle.merge_compare.proofs.compare.Goals as goal
use Rattle.merge_compare.proofs.compare.Goals.{In-Ok}

pub returns-in-Err : goal.returns-in-Err
returns-in-Err c = sym (as-first c.args.first.now c.args.second.now c.in-Err.ensures)

one : (c : In-Ok) → Trails c.args.first.now c.in-Ok.list.trailer
one c = trails-same c.in-Ok.ensures c.in-Ok.list.good

pub returns-in-Err-read : goal.returns-in-Err-read
returns-in-Err-read c =
    let good = one (goal.at.returns-in-Err-read c).In-Ok in
    sym (as-second c.args.first.now c.args.second.now good.none c.in-Err-read.ensures)

pub returns-then-one-other : goal.returns-then-one-other
returns-then-one-other c =
    let first = one (goal.at.returns-then-one-other c).In-Ok in
    let second = trails-same c.in-Ok-read.ensures c.in-Ok-read.list.good in
    sym (nodes-differ c.args.first.now c.args.second.now first.none second.none (λ e. c.if-one-other.true (first.nodes ∙ e ∙ sym second.nodes)))

pub returns : goal.returns
returns c =
    let first = one (goal.at.returns c).In-Ok in
    let second = trails-same c.in-Ok-read.ensures c.in-Ok-read.list.good in
    sym (as-good c.args.first.now c.args.second.now first.none second.none (sym first.nodes ∙ c.if-one-other.false ∙ second.nodes) (c.compare_lists.ensures ∙ ap₂ comparison c.in-Ok.ensures c.in-Ok-read.ensures))
