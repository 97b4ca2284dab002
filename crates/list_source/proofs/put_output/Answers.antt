use Rattle.std.proofs.Common.{sym, arith}
use Rattle.any_text.specs.Puts.{put-length}
use Rattle.any_text.specs.Printing.{prints-refusal}
use Rattle.list_source.specs.Printing.{prints-long}
use Rattle.list_source.proofs.put_output.Goals as goal

pub returns-then-text-gt-LONGEST : goal.returns-then-text-gt-LONGEST
returns-then-text-gt-LONGEST c =
    let p = c.put_word.ensures in
    let n = put-length p in
    let z = p.place in
    prints-refusal (sym (prints-long c.args.text.now c.if-text-gt-LONGEST.true)) _ p (omega arith)
