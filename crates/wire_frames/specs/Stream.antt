-- StreamMessageRequest and StreamMessageResponse of p4runtime.proto, release 1.0.0: one of several alternatives, each an embedded message.
--   request:  arbitration = 1, packet = 2, digest_ack = 3, other = 4;
--   response: arbitration = 1, packet = 2, digest = 3, idle_timeout_notification = 4, other = 5.
-- Bytes alone do not say which of the two they are. They are read as a response, which has the alternatives of a request and one more.
use Rattle.std.specs.Prelude.{Bool, cond, ◌&&◌, List, ℕ, eqb, leb, Ok}
use Rattle.wire_fields.specs.Fields.{Field, varint, fixed, bytes}
use Rattle.wire_fields.specs.Messages.{Reading, mapped, message}
use Rattle.wire_arbitration.specs.Update as Update

-- Which alternative a message carries, by its field number; of an arbitration message what it says. What the others hold is not looked into.
pub data Carried : Type 0 where
  nothing : Carried
  arbitration : Update.Update → Carried
  other : ℕ → Carried

abbrev pub is_other : ℕ → Bool
is_other k = leb 2 k && leb k 5

-- What an arbitration message is read on top of: only one that no other alternative has set aside.
abbrev pub known : Carried → Update.Update
known nothing = Update.nothing
known (arbitration u) = u
known (other k) = Update.nothing

-- What a field makes of what those before it have given: the last alternative counts.
abbrev pub took : Field → Carried → Reading Carried
took (varint k value) c = Ok c
took (fixed k) c = Ok c
took (bytes k held) c = cond (eqb k 1) (mapped arbitration (message Update.took (known c) held)) (Ok (cond (is_other k) (other k) c))

unfoldable pub carried : List ℕ → Reading Carried
carried l = message took nothing l
