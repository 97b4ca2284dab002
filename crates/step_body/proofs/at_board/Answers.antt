use mathlib.Core.Path.{◌≡◌, refl, sym, ap, subst, ◌∙◌}
use mathlib.Core.Bool.{false}
use Prim.Native.Nat.{ℕ}
use Rattle.std.proofs.lemmas.Result.{err_from_is_err_and}
use Rattle.rules.specs.Codes.{step_done}
use Rattle.rules.specs.Step.{kind_of}
use Rattle.step_moves.specs.Sets.{with_board}
use Rattle.step_moves.specs.Acts.{plain}
use Rattle.step_asks.specs.declared.Ask.{Ask}
use Rattle.step_asks.specs.Groups.{at_row, at_desk, runs_after}
use Rattle.step_groups.specs.Turns.{board_answer, board_after}
use Rattle.step_groups.specs.Asks.{BoardAsks, BoardGoes}
use Rattle.step_groups.specs.At.{leaves-as}
use Rattle.step_groups.specs.Called.{ask_of, refused-by}
use Rattle.step_groups.specs.BoardTurns.{board-asks, board-answered, board-goes, board-leaves}
use Rattle.step_body.proofs.at_board.Goals as goal
use Rattle.step_body.proofs.at_board.Goals.{Start}

no_row : (s : Start) → at_row (ask_of s.args.body.now s.args.ask.kind s.args.ask.node) ≡ false
no_row s = sym (ap at_row s.requires.1) ∙ s.requires.2

no-desk : (s : Start) → at_desk (ask_of s.args.body.now s.args.ask.kind s.args.ask.node) ≡ false
no-desk s = sym (ap at_desk s.requires.1) ∙ s.requires.3

-- The number of the check's answer is that of the rules, of a step that is asked of the body.
answered : (s : Start) (code : ℕ) → code ≡ board_answer s.args.ask s.args.body.now.core.streams s.args.body.now.core.claims
    → code ≡ board_answer (ask_of s.args.body.now s.args.ask.kind s.args.ask.node) s.args.body.now.core.streams s.args.body.now.core.claims
answered s code e = let core = s.args.body.now.core in e ∙ ap (λ (a : Ask). board_answer a core.streams core.claims) s.requires.1

pub check_board-requires : goal.check_board-requires
check_board-requires c =
    let b = c.args.body.now in
    let s = (goal.at.check_board-requires c).Start in
    subst (λ (a : Ask). BoardAsks a b.core.streams b.core.claims) (sym c.requires.1) (board-asks b c.requires.0 c.args.ask.node c.args.ask.kind (no_row s) (no-desk s))

pub returns-in_err-check_board-clause-leaves : goal.returns-in_err-check_board-clause-leaves
returns-in_err-check_board-clause-leaves c = λ history.
    let b = c.args.body.now in
    let n = c.args.ask.node in
    let k = c.args.ask.kind in
    let s = (goal.at.returns-in_err-check_board-clause-leaves c).Start in
    let p = err_from_is_err_and c.from_residual.result c.from_residual.ensures.1 in
    rw (p.1, p.2)
    (refused-by b c.requires.0 n history (kind_of k) c.in_err-check_board.field-0.0
    (answered s _ c.in_err-check_board.ensures ∙ board-answered b c.requires.0 n k (no_row s) (no-desk s) history))

pub change_board-requires : goal.change_board-requires
change_board-requires c =
    let b = c.args.body.now in
    let s = (goal.at.change_board-requires c).Start in
    subst (λ (a : Ask). BoardGoes a b.core.streams b.core.claims) (sym c.requires.1)
    (board-goes b c.requires.0 c.args.ask.node c.args.ask.kind (no_row s) (no-desk s) (sym (answered s _ c.in_ok-check_board.ensures)))

pub returns-clause-leaves : goal.returns-clause-leaves
returns-clause-leaves c = λ history.
    let b = c.args.body.now in
    let s = (goal.at.returns-clause-leaves c).Start in
    let n = c.args.ask.node in
    let k = c.args.ask.kind in
    let x = board_after (ask_of b k n) b.core.streams b.core.claims in
    leaves-as history _ (plain step_done (with_board (runs_after (ask_of b k n)) x.streams x.claims b)) _
    (ap (plain step_done) (c.change_board.ensures ∙ ap (λ (a : Ask). let y = board_after a b.core.streams b.core.claims in with_board (runs_after a) y.streams y.claims b) c.requires.1))
    (board-leaves b c.requires.0 n k (no_row s) (no-desk s) (sym (answered s _ c.in_ok-check_board.ensures)) history x refl)
