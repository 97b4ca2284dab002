use Rattle.std.proofs.Common.{ap, ap₂, sym, ◌∙◌, ℕ, List, [], ◌∷◌, ◌++◌, arith}
use Rattle.any_text.specs.Puts.{put-length}
use Rattle.step_parts.specs.Refusals.{cast-code, code-some}
use Rattle.run_lists.specs.Trails.{Trails, trails-same}
use Rattle.any_text.specs.Line as L
use Rattle.merge_compare.specs.Compared.{comparison}
use Rattle.merge_text.specs.Words as W
use Rattle.merge_text.specs.Report.{verdict_line, runs_text}
use Rattle.merge_text.specs.Says.{put_as, says-refused-first, says-refused-second, says-nodes, says_all}
use Rattle.merge_text.proofs.report.Goals as goal
use Rattle.merge_text.proofs.report.Goals.{In-Ok}

one : (c : In-Ok) → Trails c.args.first.now c.in-Ok.list.trailer
one c = trails-same c.in-Ok.ensures c.in-Ok.list.good

pub returns-in-Err : goal.returns-in-Err
returns-in-Err c =
    let x = c.args in
    let why = c.in-Err.ensures in
    let line = c.put_line.ensures in
    let same = put-length line.0 in
    (put_as (ap (λ (k : ℕ). L.line W.refused_first (k ∷ [])) (cast-code c.in-Err.refusal ∙ why) ∙ says-refused-first x.first.now x.second.now (λ z. code-some c.in-Err.refusal (why ∙ z))) line.0, omega arith)

pub returns-in-Err-read : goal.returns-in-Err-read
returns-in-Err-read c =
    let x = c.args in
    let good = one (goal.at.returns-in-Err-read c).In-Ok in
    let why = c.in-Err-read.ensures in
    let line = c.put_line-in-Err-read.ensures in
    let same = put-length line.0 in
    (put_as (ap (λ (k : ℕ). L.line W.refused_second (k ∷ [])) (cast-code c.in-Err-read.refusal ∙ why) ∙ says-refused-second x.first.now x.second.now good.none (λ z. code-some c.in-Err-read.refusal (why ∙ z))) line.0, omega arith)

pub returns-then-one-other : goal.returns-then-one-other
returns-then-one-other c =
    let x = c.args in
    let first = one (goal.at.returns-then-one-other c).In-Ok in
    let second = trails-same c.in-Ok-read.ensures c.in-Ok-read.list.good in
    let line = c.put_line-then-one-other.ensures in
    let same = put-length line.0 in
    (put_as (ap₂ (λ (k l : ℕ). L.line W.refused_nodes (k ∷ l ∷ [])) first.nodes second.nodes ∙ says-nodes x.first.now x.second.now first.none second.none (λ e. c.if-one-other.true (first.nodes ∙ e ∙ sym second.nodes))) line.0, omega arith)

pub returns : goal.returns
returns c =
    let x = c.args in
    let first = one (goal.at.returns c).In-Ok in
    let second = trails-same c.in-Ok-read.ensures c.in-Ok-read.list.good in
    let text = c.put_comparison.ensures in
    let same = put-length text.0 in
    let nodes = sym first.nodes ∙ c.if-one-other.false ∙ second.nodes in
    let said = ap₂ (λ (a b : List ℕ). verdict_line (comparison a b) ++ runs_text a b) c.in-Ok.ensures c.in-Ok-read.ensures in
    (put_as (said ∙ says_all x.first.now x.second.now first.none second.none nodes) text.0, omega arith)
