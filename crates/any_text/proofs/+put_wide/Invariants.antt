use Rattle.any_text.proofs.+put_wide.Given as goal

-- the number
abbrev pub decreases-put_wide : goal.decreases-put_wide
decreases-put_wide l = l.n
