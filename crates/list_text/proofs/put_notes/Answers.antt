use native.Mathlib.Omega.{arith}
use Rattle.any_text.specs.Puts.{put-none}
use Rattle.list_text.specs.Showing.{no-notes, some-notes}
use Rattle.list_text.proofs.put_notes.Goals as goal

pub returns-then-first-eq0 : goal.returns-then-first-eq0
returns-then-first-eq0 c = let a = c.args in (rw (no-notes a.first c.if-first-eq0.true) at (put-none a.buf.now a.at), omega arith)

pub returns : goal.returns
returns c = let q = c.put_line.ensures in let y = q.1 in (rw (some-notes c.args.first (omega arith)) at q.0, omega arith)
