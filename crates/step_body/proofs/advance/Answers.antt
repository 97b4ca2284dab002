use Rattle.step_body.proofs.advance.Goals as goal

pub returns-then-at_desk-clause-leaves : goal.returns-then-at_desk-clause-leaves
returns-then-at_desk-clause-leaves c = λ history long. c.at_desk-then-at_desk.ensures.leaves history

pub returns-clause-leaves : goal.returns-clause-leaves
returns-clause-leaves c = λ history long. c.at_board.ensures.leaves history
