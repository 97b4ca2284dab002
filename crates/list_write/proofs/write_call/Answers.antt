use Rattle.std.proofs.Common.{arith}
use Rattle.list_write.specs.Steps.{told-nodes, short-list}
use Rattle.list_write.proofs.write_call.Goals as goal

pub returns-in_default : goal.returns-in_default
returns-in_default c = told-nodes _ _ _ (let e = c.in_default.ensures in omega arith)

pub overflow_cast-result : goal.overflow_cast-result
overflow_cast-result c = let a = c.args in let s = short-list c.in-Ok.count a.steps.now a.out.now in let w = c.in-Ok-write.ensures.length in omega arith

pub overflow_add-result : goal.overflow_add-result
overflow_add-result c = let a = c.args in let s = short-list c.in-Ok.count a.steps.now a.out.now in let w = c.in-Ok-write.ensures.length in omega arith
