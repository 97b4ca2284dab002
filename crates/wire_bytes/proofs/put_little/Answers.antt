use borrow.Author.Rules.{rules}
use Rattle.any_text.specs.Puts.{put-length}
use Rattle.wire_bytes.specs.Little.{putting-starts, putting-inside, putting-more}
use Rattle.wire_bytes.proofs.put_little.Goals as goal

pub loop-i-init : goal.loop-i-init
loop-i-init c = putting-starts _ _ _ _

pub overflow_add-buf : goal.overflow_add-buf
overflow_add-buf c =
    let inside = putting-inside c.loop-i.invariant c.requires c.loop-i-test.true in
    let long = put-length c.loop-i.invariant.put in
    search rules

pub bounds-buf-at : goal.bounds-buf-at
bounds-buf-at c = putting-inside c.loop-i.invariant c.requires c.loop-i-test.true

pub loop-i-preserved : goal.loop-i-preserved
loop-i-preserved c = putting-more c.loop-i.invariant c.loop-i-test.true
