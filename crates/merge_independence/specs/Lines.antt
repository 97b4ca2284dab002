-- The list of independent steps, written out: a step e and then a step f are named by one of the six lines. Assumes nothing.
use Rattle.std.specs.Prelude.{◌≡◌, Bool, not, ◌&&◌, ◌||◌, eqb}
use Rattle.std.proofs.Math.Bool.{and-true, or_assoc, or-false}
use Rattle.rules.specs.Queues.{has}
use Rattle.rules.specs.Step.{Event}
use Rattle.rules_exchange.specs.Independent.{service_kinds, learn_kinds, send_kinds, receive_kinds, switch_kinds, stream_kinds, quiet_kinds, message_kinds, node_kinds, lines, listed}

module _ (e f : Event) where
  abbrev differ : Bool
  differ = not (eqb e.node f.node)

  abbrev pub by_lines : Bool
  by_lines =
      has e.kind node_kinds && has f.kind node_kinds && differ
      || has e.kind service_kinds && has f.kind message_kinds
      || has e.kind service_kinds && has f.kind switch_kinds
      || has e.kind learn_kinds && has f.kind switch_kinds
      || has e.kind send_kinds && has f.kind stream_kinds && differ
      || has e.kind receive_kinds && has f.kind quiet_kinds && differ

  pub by-lines : listed lines e f ≡ by_lines
  unfolding listed
  by-lines = simp (and-true, or_assoc, or-false)
