use Rattle.merge_independence.specs.Lines.{by-lines}
use Rattle.merge_independence.proofs.listed.Goals as goal

pub returns : goal.returns
returns c = rw by-lines (simp (
  c.is_service-service.ensures,
  c.is_switch-switch.ensures,
  c.is_node_kind.ensures,
  c.is_node_kind-2.ensures,
  c.is_message.ensures,
  c.is_learn.ensures,
  c.is_send.ensures,
  c.is_stream.ensures,
  c.is_receive.ensures,
  c.is_quiet.ensures,
))
