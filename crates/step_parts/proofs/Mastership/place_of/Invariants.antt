use Rattle.std.proofs.Common.{◌≡◌, ◌≢◌, ◌+◌, ◌≤◌, take, drop}
use Rattle.rules.specs.Queues.{before}
use Rattle.step_parts.proofs.Mastership.place_of.Given as goal

-- those that the loop has passed are other nodes
abbrev pub invariant-loop-i : goal.invariant-loop-i
invariant-loop-i l = let used = take l.fn.self.len l.fn.self.backups in (l.i ≤ l.fn.self.len) × (l.fn.self.master ≢ l.node) × (before l.node used ≡ l.i + before l.node (drop l.i used))
