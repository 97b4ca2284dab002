use Rattle.any_text.specs.Puts.{puts}
use Rattle.wire_bytes.proofs.put_fields.Goals as goal

pub put_numbers-next-requires : goal.put_numbers-next-requires
put_numbers-next-requires c = search puts

pub put_flags-requires : goal.put_flags-requires
put_flags-requires c = search puts

pub returns : goal.returns
returns c = search puts
