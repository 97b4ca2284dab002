use Rattle.std.proofs.Common.{◌≡◌, ℕ, min, length, sym, ap, ◌∙◌, arith, length-take}
use Rattle.std.proofs.lemmas.Bool.{lt-leb}
use Rattle.rules.specs.Ids.{place_of}
use Rattle.step_parts.specs.Hold.{hold_mastership}
use Rattle.step_parts.specs.Places.{named-place, same-leb}
use Rattle.step_parts.proofs.Mastership.names.Goals as goal
use Rattle.step_parts.proofs.Mastership.names.Goals.{Start}

-- how many backups are held
held : (c : Start) → length (hold_mastership c.args.self).backups ≡ min c.args.self.len 7
held c = length-take _ _ ∙ ap (λ (k : ℕ). min c.args.self.len k) (omega arith)

pub returns-then-place-le-MOST_BACKUPS : goal.returns-then-place-le-MOST_BACKUPS
returns-then-place-le-MOST_BACKUPS c =
    let m = hold_mastership c.args.self in
    let n = held (goal.at.returns-then-place-le-MOST_BACKUPS c).Start in
    let e = c.place_of-place.ensures in
    sym (named-place c.args.node m ∙ same-leb (place_of c.args.node m) (length m.backups) c.place_of-place.result c.args.self.len (λ h. omega arith) (λ h. omega arith))

pub returns-else-place-le-MOST_BACKUPS : goal.returns-else-place-le-MOST_BACKUPS
returns-else-place-le-MOST_BACKUPS c =
    let m = hold_mastership c.args.self in
    let n = held (goal.at.returns-else-place-le-MOST_BACKUPS c).Start in
    let e = c.place_of-place.ensures in
    lt-leb _ _ c.if-place-le-MOST_BACKUPS.false
    ∙ sym (named-place c.args.node m ∙ lt-leb (place_of c.args.node m) (length m.backups) (omega arith))
