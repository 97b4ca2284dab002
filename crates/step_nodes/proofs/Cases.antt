-- What a test for one case of an enum says in the words of the rules. Assumes nothing.
use Rattle.std.specs.Prelude.{◌≡◌, refl}
use denote.Enum.Bare.{sameb}
use Rattle.rules.specs.Rules.{is_write, is_ok}
use Rattle.step_parts.specs.Hold.{hold_message, hold_status}
use Rattle.step_parts.specs.contracts.Message as Message
use Rattle.step_parts.specs.contracts.Status as Status
use Rattle.step_parts.specs.declared.Message.{Message}
use Rattle.step_parts.specs.declared.Message.TheVariants as M
use Rattle.step_parts.specs.declared.Status.{Status}
use Rattle.step_parts.specs.declared.Status.TheVariants as T

pub same-write : (m : Message) → sameb Message.the_type m M.Write ≡ is_write (hold_message m)
unfolding is_write
same-write M.Nothing = refl
same-write M.Update = refl
same-write M.Write = refl

pub same-ok : (s : Status) → sameb Status.the_type s T.Ok ≡ is_ok (hold_status s)
unfolding is_ok
same-ok T.Nothing = refl
same-ok T.Ok = refl
same-ok T.AlreadyExists = refl
same-ok T.NotFound = refl
same-ok T.PermissionDenied = refl
