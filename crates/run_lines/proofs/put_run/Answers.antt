use mathlib.Core.Path.{◌≡◌}
use mathlib.Core.List.{List}
use Prim.Native.Nat.{ℕ, ◌-◌, ◌≤◌}
use native.Mathlib.Omega.{arith}
use lib.ListN.{length, drop, length-take, length-drop}
use lib.Seq.{take_all}
use Rattle.rules.specs.Limits.{history_length}
use Rattle.any_text.specs.Lines.{writes_line}
use Rattle.any_text.specs.Put.{Put}
use Rattle.any_text.specs.Puts.{put_then, put-length}
use Rattle.any_text.specs.Widths.{writes-line-width}
use Rattle.any_text.specs.Spacing.{writes-parts}
use Rattle.run_lists.specs.EventList.{record_count}
use Rattle.run_lines.specs.RunText.{record_line_at}
use Rattle.run_lines.specs.Bytes.{entry_line_at, bytes_text, longest_text}
use Rattle.any_text.specs.Lined.{Lined}
use Rattle.run_lines.proofs.put_run.Goals as goal

-- the three parts, one behind the other
whole : (list out : List ℕ) (writes : ℕ) {part l m k j : List ℕ} {total a b r : ℕ} → total ≡ record_count list → part ≡ drop total out → total ≤ 32762 → writes ≤ history_length
    → Lined (record_line_at list out) 18 l 0 total m a → Put m a (writes_line writes) k b → Lined (entry_line_at part) 10 k b writes j r
    → Put l 0 (bytes_text list out writes) j r × (r ≤ longest_text)
unfolding bytes_text
whole list out writes e d c w p q s =
    let short = writes-line-width writes (omega arith) in
    (rw (← e, ← d) (put_then (put_then p.put q) s.put), omega arith)

pub put_fitting_line-next-requires : goal.put_fitting_line-next-requires
put_fitting_line-next-requires c =
    let writes = c.args.writes in
    let same = put-length c.put_records-writes_at.ensures.put in
    let short = writes-line-width writes (omega arith) in
    rw (← writes-parts writes) (record { enough = omega arith })

pub put_writes-requires : goal.put_writes-requires
put_writes-requires c =
    let line = rw (← writes-parts c.args.writes) at c.put_fitting_line-next.ensures in
    let same = put-length (put_then c.put_records-writes_at.ensures.put line) in
    let end = line.place in
    let short = writes-line-width c.args.writes (omega arith) in
    (simp (length-take, length-drop) (omega arith), omega arith)

pub returns : goal.returns
returns c =
    let total = c.args.list.trailer.records in
    let out = c.args.out.now in
    whole c.args.list.bytes.now out c.args.writes c.args.list.good.records (take_all (length out - total) (drop total out) (simp length-drop (omega arith))) (omega arith) (omega arith)
    c.put_records-writes_at.ensures (rw (← writes-parts c.args.writes) at c.put_fitting_line-next.ensures) c.put_writes.ensures
