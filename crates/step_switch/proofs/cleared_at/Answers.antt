use Rattle.step_switch.proofs.cleared_at.Goals as goal

pub returns : goal.returns
returns c = simp (c.closed_stream.ensures, c.with_claim-cleared.ensures)
