use Rattle.std.proofs.Common.{sym, ◌∙◌, arith}
use Rattle.any_words.specs.Numbers.{too_long, said-bad, said_fits, said_more, said_all}
use Rattle.any_words.proofs.read_number.Goals as goal

pub returns-then-word-gt19 : goal.returns-then-word-gt19
returns-then-word-gt19 c = too_long c.args.word.now c.if-word-gt19.true

pub returns-then-not-is_ascii_digit : goal.returns-then-not-is_ascii_digit
returns-then-not-is_ascii_digit c = said-bad c.loop-byte.invariant c.loop-byte-test.true (sym c.is_ascii_digit.ensures.value ∙ c.if-not-is_ascii_digit.true)

pub overflow_mul-value : goal.overflow_mul-value
overflow_mul-value c = let f = said_fits c.loop-byte.invariant c.loop-byte-test.true (sym c.is_ascii_digit.ensures.value ∙ c.if-not-is_ascii_digit.false) in omega arith

pub overflow_add-value : goal.overflow_add-value
overflow_add-value c = let f = said_fits c.loop-byte.invariant c.loop-byte-test.true (sym c.is_ascii_digit.ensures.value ∙ c.if-not-is_ascii_digit.false) in let z = c.from.ensures in omega arith

pub loop-byte-preserved : goal.loop-byte-preserved
loop-byte-preserved c = rw c.from.ensures (said_more c.loop-byte.invariant c.loop-byte-test.true (sym c.is_ascii_digit.ensures.value ∙ c.if-not-is_ascii_digit.false))

pub returns : goal.returns
returns c = said_all c.loop-byte.invariant (omega arith)
