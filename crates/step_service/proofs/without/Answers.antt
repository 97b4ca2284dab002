use Rattle.std.proofs.Common.{◌≡◌, suc, ◌+◌, ◌-◌, ◌≤◌, length, sym, ap, ◌∙◌, arith, ne_eqb}
use borrow.Author.Tests.{ltb-true}
use Rattle.any_list.specs.Search.{has-before}
use Rattle.rules.specs.Queues.{remove, before}
use Rattle.rules.specs.Ids.{place_of}
use Rattle.step_parts.specs.Hold.{hold_mastership}
use Rattle.step_parts.specs.declared.Mastership.{Mastership}
use Rattle.step_service.specs.Removal.{removed-length}
use Rattle.step_service.specs.Masterships.{backups-len}
use Rattle.step_service.proofs.Moving.{without-places}
use Rattle.step_service.proofs.without.Goals as goal
use Rattle.step_service.proofs.without.Goals.{After-place_of}

-- one backup goes, and as many are kept as there are others
sizes : (c : After-place_of) → (suc (length (remove c.args.node (hold_mastership c.args.m).backups)) ≡ c.args.m.len) × (c.args.m.len ≤ 7)
sizes c =
    let n = backups-len c.args.m c.requires.ordered in
    let s = c.requires.ordered.short in
    (removed-length c.args.node (hold_mastership c.args.m).backups c.requires.among ∙ sym n, omega arith)

-- its place is that of the node among the backups
gone : (c : After-place_of) → c.place_of.result ≡ before c.args.node (hold_mastership c.args.m).backups + 1
unfolding place_of
gone c = c.place_of.ensures ∙ simp (ne_eqb _ _ c.requires.other)

below : (c : After-place_of) → c.place_of.result ≤ c.args.m.len
below c =
    let l = (hold_mastership c.args.m).backups in
    let k = gone c in
    let n = backups-len c.args.m c.requires.ordered in
    let h = ltb-true (before c.args.node l) (length l) (sym (has-before c.args.node l) ∙ c.requires.among) in omega arith

pub overflow_sub-gone : goal.overflow_sub-gone
overflow_sub-gone c = let k = gone (goal.at.overflow_sub-gone c).After-place_of in omega arith

pub overflow_sub-result : goal.overflow_sub-result
overflow_sub-result c = let s = sizes (goal.at.overflow_sub-result c).After-place_of in omega arith

pub returns : goal.returns
returns c =
    let at = (goal.at.returns c).After-place_of in
    let m = c.args.m in
    let k = gone at in
    let s = sizes at in
    let g : c.place_of.result - 1 ≡ before c.args.node (hold_mastership m).backups = omega arith in
    let size : length m.backups ≡ 7 = omega arith in
    let v = c.loop-i.invariant in
    let b = below at in
    let e : c.loop-i.i - before c.args.node (hold_mastership m).backups ≡ 7 - (before c.args.node (hold_mastership m).backups + 1) = omega arith in
    let places = without-places c.args.node (hold_mastership m).backups m.backups c.loop-i.backups c.requires.among c.requires.ordered.short
    (ap (λ (x : Mastership). x.backups) (sym c.requires.ordered.same)) v.1 (rw (g, e) at v.2) (rw g at v.3) in
    λ i. record {
      term = m.term;
      master = m.master;
      backups = places i;
      len = (let e : m.len - 1 ≡ length (remove c.args.node (hold_mastership m).backups) = omega arith in e) i;
    }
