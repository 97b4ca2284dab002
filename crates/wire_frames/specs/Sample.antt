-- Frames in bytes, and what they carry. Assumes nothing.
use Rattle.std.specs.Prelude.{◌≡◌, refl, [], ◌∷◌, Ok, Err}
use Rattle.std.proofs.Math.Option.{none, some}
use Rattle.wire_fields.specs.Numbers as Numbers
use Rattle.wire_fields.specs.declared.Fault.TheVariants.{CutShort}
use Rattle.wire_fields.specs.Fields as Fields
use Rattle.wire_fields.specs.Messages as Messages
use Rattle.wire_frames.specs.Stream.{arbitration, other, carried}
use Rattle.wire_frames.specs.Frames.{framed, frame, held_length, frame_at}
use Rattle.wire_frames.specs.declared.Refusal.TheVariants as Refusal
use Rattle.wire_frames.specs.declared.Refusal.TheVariants.{Compressed}

-- A frame of a real capture: device_id 7, election_id { high 1 low 2 }.
pub a-request : framed (0 ∷ 0 ∷ 0 ∷ 0 ∷ 10 ∷ 10 ∷ 8 ∷ 8 ∷ 7 ∷ 26 ∷ 4 ∷ 8 ∷ 1 ∷ 16 ∷ 2 ∷ []) ≡ frame (10 ∷ 8 ∷ 8 ∷ 7 ∷ 26 ∷ 4 ∷ 8 ∷ 1 ∷ 16 ∷ 2 ∷ [])
unfolding framed held_length
a-request = refl

pub its-message : carried (10 ∷ 8 ∷ 8 ∷ 7 ∷ 26 ∷ 4 ∷ 8 ∷ 1 ∷ 16 ∷ 2 ∷ [])
    ≡ Ok (arbitration (record { device = some 7; role = none; election = some (record { high = some 1; low = some 2 }); status = none }))
unfolding carried Messages.fields_in Fields.field Fields.tagged Fields.content Fields.part Numbers.number_in
its-message = refl

-- The greatest byte of the length comes first.
pub length-said : held_length (0 ∷ 0 ∷ 0 ∷ 1 ∷ 2 ∷ []) ≡ 258
unfolding held_length
length-said = refl

-- device_id 7, and then a role: twice in a row is merged.
pub merged : carried (10 ∷ 2 ∷ 8 ∷ 7 ∷ 10 ∷ 2 ∷ 18 ∷ 0 ∷ []) ≡ Ok (arbitration (record { device = some 7; role = some (record { id = none }); election = none; status = none }))
unfolding carried Messages.fields_in Fields.field Fields.tagged Fields.content Fields.part Numbers.number_in
merged = refl

-- A packet in between sets the device id aside.
pub set-aside : carried (10 ∷ 2 ∷ 8 ∷ 7 ∷ 18 ∷ 0 ∷ 10 ∷ 2 ∷ 18 ∷ 0 ∷ []) ≡ Ok (arbitration (record { device = none; role = some (record { id = none }); election = none; status = none }))
unfolding carried Messages.fields_in Fields.field Fields.tagged Fields.content Fields.part Numbers.number_in
set-aside = refl

pub last-counts : carried (10 ∷ 2 ∷ 8 ∷ 7 ∷ 34 ∷ 0 ∷ []) ≡ Ok (other 4)
unfolding carried Messages.fields_in Fields.field Fields.tagged Fields.content Fields.part Numbers.number_in
last-counts = refl

-- A fault counts also in a message that is set aside behind it.
pub first-fault : carried (10 ∷ 1 ∷ 8 ∷ 18 ∷ 0 ∷ []) ≡ Err CutShort
unfolding carried Messages.fields_in Fields.field Fields.tagged Fields.content Fields.part Numbers.number_in
first-fault = refl

-- The flag is judged before the length.
pub flag-first : frame_at (1 ∷ []) ≡ Err Compressed
unfolding frame_at framed held_length
flag-first = refl

pub one-byte-short : frame_at (0 ∷ 0 ∷ 0 ∷ 0 ∷ 1 ∷ []) ≡ Err Refusal.CutShort
unfolding frame_at framed held_length
one-byte-short = refl
