use Rattle.std.proofs.Common.{take, sym, ◌∙◌, arith, length-take, get_or-take, eq-eqb, ne_eqb}
use Rattle.rules.specs.Ids.{place_of}
use Rattle.step_parts.specs.Places.{before-end, before_here, before_on}
use Rattle.step_parts.proofs.Mastership.place_of.Goals as goal
use Rattle.step_parts.proofs.Mastership.place_of.Goals.{then-self-i-via-then-self-i, then-self-i-via-else-self-i+then-backup-node}

pub returns-then-self-node : goal.returns-then-self-node
unfolding place_of
returns-then-self-node c = simp (eq-eqb _ _ c.if-self-node.true)

pub returns-then-self-i : goal.returns-then-self-i
unfolding place_of
returns-then-self-i c =
    let len = c.args.self.len in
    let backups = c.args.self.backups in
    let used = take len backups in
    let passed = c.loop-i.invariant.2 in
    simp (ne_eqb _ _ c.loop-i.invariant.1) (elim c.then-self-i.branch [
      | then-self-i-via-then-self-i w ↦ let e = before-end _ used c.loop-i.i passed (rw length-take (omega arith)) in omega arith
      | then-self-i-via-else-self-i+then-backup-node w ↦
          let e = before_here _ used c.loop-i.i passed (rw length-take (omega arith)) (get_or-take len backups c.loop-i.i 0 (omega arith) ∙ w.if-backup-node.true) in omega arith
    ])

pub loop-i-preserved : goal.loop-i-preserved
loop-i-preserved c =
    let len = c.args.self.len in
    let backups = c.args.self.backups in (
      omega arith,
      c.loop-i.invariant.1,
      before_on _ (take len backups) c.loop-i.i c.loop-i.invariant.2 (rw length-take (omega arith)) (λ e. c.if-backup-node.false (sym (get_or-take len backups c.loop-i.i 0 (omega arith)) ∙ e)),
    )

pub returns : goal.returns
unfolding place_of
returns c =
    let e = before-end _ (take c.args.self.len c.args.self.backups) c.loop-i.i c.loop-i.invariant.2 (rw length-take (omega arith)) in
    simp (ne_eqb _ _ c.loop-i.invariant.1, e) (omega arith)
