-- What the code keeps of the arbitration message in a stream message is what the message carries. Assumes nothing.
use Rattle.std.specs.Prelude.{◌≡◌, refl, List, ℕ, Ok, Err}
use Rattle.std.proofs.Common.{ap, ◌∙◌}
use Rattle.wire_fields.specs.Fields.{bytes}
use Rattle.wire_fields.specs.Messages.{Reading, mapped, message}
use Rattle.wire_fields.specs.declared.Fault.{Fault}
use Rattle.wire_arbitration.specs.Update as Update
use Rattle.wire_arbitration.specs.Seen.{seen}
use Rattle.wire_arbitration.specs.Raw.{message_onto}
use Rattle.wire_arbitration.proofs.Seeing.{sees-onto}
use Rattle.wire_arbitration.specs.declared.Raw.{Raw}
use Rattle.wire_frames.specs.Stream.{Carried, nothing, arbitration, other, known}
use Rattle.wire_frames.specs.Frames.{carried_as, fields_of, message_of}
use Rattle.wire_frames.specs.Streaming.{Takes}
use Rattle.wire_frames.specs.declared.Carried.{Carried as Kept}
use Rattle.wire_frames.specs.declared.Carried.TheVariants.{Arbitration}

fields-known : (c : Carried) → fields_of (carried_as c) ≡ seen (known c)
fields-known nothing = refl
fields-known (arbitration u) = refl
fields-known (other k) = refl

module _ (held : List ℕ) (before : Kept) where
  -- What was read is what the message says, on top of what was carried.
  read-so : (r : Reading Raw) → r ≡ message_onto (fields_of before) held → (c : Carried) → before ≡ carried_as c → r ≡ mapped seen (message Update.took (known c) held)
  read-so r read c e = read ∙ ap (λ (b : Raw). message_onto b held) (ap fields_of e ∙ fields-known c) ∙ sees-onto (known c) held

  as-carried : (s : Reading Update.Update) → mapped Arbitration (mapped seen s) ≡ message_of (mapped arbitration s)
  as-carried (Ok u) = refl
  as-carried (Err why) = refl

  pub takes-arbitration : (r : Raw) → Ok r ≡ message_onto (fields_of before) held → Takes (bytes 1 held) before (Ok (Arbitration r))
  takes-arbitration r read c e = ap (mapped Arbitration) (read-so (Ok r) read c e) ∙ as-carried (message Update.took (known c) held)

  pub takes-fault : (why : Fault) → Err why ≡ message_onto (fields_of before) held → Takes (bytes 1 held) before (Err why)
  takes-fault why read c e = ap (mapped Arbitration) (read-so (Err why) read c e) ∙ as-carried (message Update.took (known c) held)
