use mathlib.Core.Path.{◌∙◌}
use Rattle.merge_independence.specs.Kinds.{power-exists, node-exists, unknown-exists}
use Rattle.merge_independence.proofs.exists.Goals as goal

pub returns-in_default : goal.returns-in_default
returns-in_default c = unknown-exists _ _ _ c.in_default.ensures.1

pub returns-in-Shutdown : goal.returns-in-Shutdown
returns-in-Shutdown c = rw c.in-Ok.ensures (power-exists _ _ c.in-Ok.kind c.in-Shutdown.is)

pub returns-in_default-kind : goal.returns-in_default-kind
returns-in_default-kind c = rw c.in-Ok.ensures (c.is_node.ensures ∙ node-exists _ _ c.in-Ok.kind c.in_default-kind.not-Shutdown c.in_default-kind.not-Startup)
