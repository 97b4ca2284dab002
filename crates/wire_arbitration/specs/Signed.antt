-- The low 32 bits as the code makes them signed. Assumes nothing.
use Rattle.std.specs.Prelude.{◌≡◌, refl, ℕ, zero, suc, ◌-◌, ◌%◌, ◌^◌, ◌<◌, ◌≤◌, ℤ, pos, negsuc, ◌-ℤ◌, Ok, Err}
use Rattle.std.proofs.Common.{ap, ◌∙◌, arith, SFits, to_z, of_z, to_z-of_z, lt-ltb, le-ltb}
use Rattle.std.specs.Int.Bits.{bit_and}
use Rattle.std.proofs.lemmas.Nat.{and_mask}
use Rattle.std.specs.Int.{w32}
use Rattle.std.proofs.Math.Facts.{to_z_pos}
use Rattle.std.specs.Bool.{then_some}
use Rattle.std.proofs.Math.Option as Said
use Rattle.std.proofs.Math.Option.{none, some}
use Rattle.wire_fields.specs.Messages.{Reading, mapped}
use Rattle.wire_arbitration.specs.Update as Spec
use Rattle.wire_arbitration.specs.Seen.{value, is_given, raw_of}
use Rattle.wire_arbitration.specs.Arbitration.{signed, low32, role_of, election_of, status_of, arbitration}
use Rattle.wire_arbitration.specs.declared.Raw.{Raw}
use Rattle.wire_arbitration.specs.declared.Arbitration.{Arbitration}

-- The low 32 bits.
abbrev pub bits_of : ℕ → ℕ
bits_of v = bit_and v 4294967295

bits_are : (v : ℕ) → bits_of v ≡ v % 2 ^ 32
bits_are v = and_mask v 32

pub bits_below : (v : ℕ) → bits_of v ≤ 4294967295
bits_below v = let e = bits_are v in omega arith

minus-one-less : (k : ℕ) → negsuc 0 -ℤ pos k ≡ negsuc k
minus-one-less zero = refl
minus-one-less (suc k) = ap negsuc (omega arith)

-- -1 - k
less : (k : ℕ) → k < 2 ^ 31 → negsuc 0 -ℤ to_z w32 k ≡ negsuc k
less k h = ap (λ (z : ℤ). negsuc 0 -ℤ z) (to_z_pos w32 h) ∙ minus-one-less k

pub less-fits : (k : ℕ) → k < 2 ^ 31 → SFits w32 (negsuc 0 -ℤ to_z w32 k)
less-fits k h = rw (less k h) (record { sfits = h })

pub low-positive : (v : ℕ) → bits_of v < 2147483648 → to_z w32 (bits_of v) ≡ low32 v
unfolding signed
low-positive v h = to_z_pos w32 h ∙ rw (bits_are v) (let k : v % 2 ^ 32 < 2 ^ 31 = rw (bits_are v) at h in simp (lt-ltb (v % 2 ^ 32) (2 ^ 31) k))

pub low-negative : (v : ℕ) → 2147483648 ≤ bits_of v → to_z w32 (of_z w32 (negsuc 0 -ℤ to_z w32 (4294967295 - bits_of v))) ≡ low32 v
unfolding signed
low-negative v h =
    let small : 4294967295 - bits_of v < 2 ^ 31 = omega arith in
    let k : 2 ^ 31 ≤ v % 2 ^ 32 = rw (bits_are v) at h in
    to_z-of_z (less-fits _ small) ∙ less _ small ∙ rw (bits_are v) (simp (le-ltb (v % 2 ^ 32) (2 ^ 31) k))

-- ---- what is reported of what the code has read

abbrev pub shown : Raw → ℤ → Arbitration
shown r code = record {
  device = r.device;
  role = then_some r.role (record { id = r.id });
  election = then_some r.election (record { high = r.high; low = r.low });
  status = then_some r.status (record { code = code });
}

shows-role : (o : Said.Option Spec.Role) → then_some (is_given o) (record { id = value (Spec.or_else Spec.no_role o).id }) ≡ role_of o
shows-role none = refl
shows-role (some r) = refl

shows-election : (o : Said.Option Spec.Uint128)
    → then_some (is_given o) (record { high = value (Spec.or_else Spec.no_election o).high; low = value (Spec.or_else Spec.no_election o).low }) ≡ election_of o
shows-election none = refl
shows-election (some e) = refl

shows-status : (o : Said.Option Spec.Status) → then_some (is_given o) (record { code = low32 (value (Spec.or_else Spec.no_status o).code) }) ≡ status_of o
shows-status none = refl
shows-status (some s) = refl

pub shows : (s : Reading Spec.Update) → mapped (λ (r : Raw). shown r (low32 r.error)) (raw_of s) ≡ arbitration s
shows (Ok u) = rw (shows-role u.role, shows-election u.election, shows-status u.status) refl
shows (Err why) = refl
