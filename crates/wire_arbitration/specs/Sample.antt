-- Messages in bytes, and what they say. Assumes nothing.
use Rattle.std.specs.Prelude.{◌≡◌, refl, [], ◌∷◌, ◌-◌, ◌^◌, negsuc, Ok, Err}
use Rattle.std.proofs.Math.Option.{none, some}
use Rattle.wire_fields.specs.Numbers as Numbers
use Rattle.wire_fields.specs.declared.Fault.TheVariants.{CutShort}
use Rattle.wire_fields.specs.Fields as Fields
use Rattle.wire_fields.specs.Messages as Messages
use Rattle.wire_arbitration.specs.Update.{nothing, reading}
use Rattle.wire_arbitration.specs.Arbitration.{signed, low32}

-- No bytes are a message that says nothing.
pub empty : reading [] ≡ Ok nothing
unfolding reading Messages.fields_in
empty = refl

-- device_id 7, role { id 5 }, election_id { high 1 low 2 }, status { code 150 }
pub all-fields : reading (8 ∷ 7 ∷ 18 ∷ 2 ∷ 8 ∷ 5 ∷ 26 ∷ 4 ∷ 8 ∷ 1 ∷ 16 ∷ 2 ∷ 34 ∷ 3 ∷ 8 ∷ 150 ∷ 1 ∷ [])
    ≡ Ok (record { device = some 7; role = some (record { id = some 5 }); election = some (record { high = some 1; low = some 2 }); status = some (record { code = some 150 }) })
unfolding reading Messages.fields_in Fields.field Fields.tagged Fields.content Fields.part Numbers.number_in
all-fields = refl

-- The last device id wins, also where it is 0.
pub last-wins : reading (8 ∷ 7 ∷ 8 ∷ 0 ∷ []) ≡ Ok (record { device = some 0; role = none; election = none; status = none })
unfolding reading Messages.fields_in Fields.field Fields.tagged Fields.content Fields.part Numbers.number_in
last-wins = refl

-- election_id { high 1 low 2 } and then election_id { low 3 }
pub merged : reading (26 ∷ 4 ∷ 8 ∷ 1 ∷ 16 ∷ 2 ∷ 26 ∷ 2 ∷ 16 ∷ 3 ∷ []) ≡ Ok (record { device = none; role = none; election = some (record { high = some 1; low = some 3 }); status = none })
unfolding reading Messages.fields_in Fields.field Fields.tagged Fields.content Fields.part Numbers.number_in
merged = refl

-- An empty role is present; a role of another wire type is not.
pub empty-role : reading (18 ∷ 0 ∷ []) ≡ Ok (record { device = none; role = some (record { id = none }); election = none; status = none })
unfolding reading Messages.fields_in Fields.field Fields.tagged Fields.content Fields.part Numbers.number_in
empty-role = refl

pub role-number : reading (16 ∷ 1 ∷ []) ≡ Ok nothing
unfolding reading Messages.fields_in Fields.field Fields.tagged Fields.content Fields.part Numbers.number_in
role-number = refl

-- The first fault from the front: that in the role, before the bad tag behind it.
pub first-fault : reading (18 ∷ 1 ∷ 8 ∷ 0 ∷ []) ≡ Err CutShort
unfolding reading Messages.fields_in Fields.field Fields.tagged Fields.content Fields.part Numbers.number_in
first-fault = refl

-- What a skipped field holds is not looked into.
pub skipped-bytes : reading (42 ∷ 1 ∷ 11 ∷ []) ≡ Ok nothing
unfolding reading Messages.fields_in Fields.field Fields.tagged Fields.content Fields.part Numbers.number_in
skipped-bytes = refl

-- -5 stands on the wire as 2^64 - 5.
pub minus-five : low32 (2 ^ 64 - 5) ≡ negsuc 4
unfolding signed
minus-five = refl
