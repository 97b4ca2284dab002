use Rattle.std.specs.List.{CopiedTo, SameBelow}
use Rattle.std.proofs.Common.{◌≡◌, ◌+◌, ◌-◌, ◌≤◌, length}
use Rattle.step_service.proofs.without.Given as goal

-- those from `gone` up to i have moved up by one
abbrev pub invariant-loop-i : goal.invariant-loop-i
invariant-loop-i l = (l.gone ≤ l.i) × (length l.backups ≡ 7) × CopiedTo l.m.backups l.backups (l.gone + 1) l.gone (l.i - l.gone) × SameBelow l.m.backups l.backups l.gone
