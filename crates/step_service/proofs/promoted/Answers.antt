use mathlib.Core.Path.{◌≡◌, ap, ◌∙◌}
use mathlib.Core.List.{List}
use Prim.Native.Nat.{ℕ, ◌+◌, ◌-◌}
use lib.ListN.{length, get_or}
use Rattle.step_parts.specs.declared.Mastership.{Mastership}
use Rattle.any_list.specs.Tables.{moved_up}
use Rattle.step_service.specs.Masterships.{handed-over}
use native.Mathlib.Omega.{arith}
use Rattle.step_service.proofs.promoted.Goals as goal

pub returns : goal.returns
returns c =
    let m = c.args.m in
    let n : length m.backups ≡ 7 = omega arith in
    ap {B = Mastership} (λ (l : List ℕ). record { term = record { 0 = m.term.0 + 1 }; master = get_or m.backups 0 0; backups = l; len = m.len - 1 }) (moved_up 6 m.backups 0 0 n)
    ∙ handed-over m c.requires.ordered c.requires.some
