-- How long a line can be. Assumes nothing.
use Rattle.std.specs.Prelude.{ℕ, ◌≤◌, ◌<◌, length}
use Rattle.std.proofs.Common.{arith, length-append}
use Rattle.any_text.specs.Lines.{record_line, writes_line, write_line, refused_line}
use Rattle.any_text.specs.Digits.{width}

-- A place of up to five digits, and three bytes.
pub record-line-width : (place kind node answer : ℕ) → place < 100000 → kind < 256 → node < 256 → answer < 256 → length (record_line place kind node answer) ≤ 18
unfolding record_line
record-line-width place kind node answer p k n a =
    let w = width place 4 p in
    let x = width kind 2 (omega arith) in
    let y = width node 2 (omega arith) in
    let z = width answer 2 (omega arith) in
    simp length-append (omega arith)

pub writes-line-width : (n : ℕ) → n < 10000 → length (writes_line n) ≤ 12
unfolding writes_line
writes-line-width n h = let w = width n 3 h in simp length-append (omega arith)

-- A byte and two bytes.
pub write-line-width : (node term : ℕ) → node < 256 → term < 65536 → length (write_line node term) ≤ 10
unfolding write_line
write-line-width node term n t =
    let w = width node 2 (omega arith) in
    let x = width term 4 (omega arith) in
    simp length-append (omega arith)

pub refused-line-width : (n : ℕ) → n < 256 → length (refused_line n) ≤ 12
unfolding refused_line
refused-line-width n h = let w = width n 2 (omega arith) in simp length-append (omega arith)
