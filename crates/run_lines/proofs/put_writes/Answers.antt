use Rattle.std.proofs.Common.{◌≡◌, ap, arith}
use Rattle.any_text.specs.Widths.{write-line-width}
use Rattle.any_text.specs.Spacing.{write-row}
use Rattle.run_lines.specs.RunText.{line_of}
use Rattle.any_text.specs.Lined.{lined-none, lined-more, lined-room}
use Rattle.run_lines.proofs.put_writes.Goals as goal

pub loop-i-init : goal.loop-i-init
loop-i-init c = lined-none _ _ _ _

pub put_row-next-requires : goal.put_row-next-requires
put_row-next-requires c =
    let entry = c.entry_at-entry.result in
    let short = write-line-width entry.node entry.term.0 (omega arith) (omega arith) in
    rw (← write-row entry.node entry.term.0) (lined-room c.loop-i.invariant short c.args.writes (omega arith) (omega arith))

pub loop-i-preserved : goal.loop-i-preserved
loop-i-preserved c =
    let entry = c.entry_at-entry.result in
    let short = write-line-width entry.node entry.term.0 (omega arith) (omega arith) in
    lined-more c.loop-i.invariant short (ap line_of c.entry_at-entry.ensures) (rw (← write-row entry.node entry.term.0) at c.put_row-next.ensures)

pub returns : goal.returns
returns c =
    let all : c.loop-i.i ≡ c.args.writes = omega arith in
    rw all at c.loop-i.invariant
