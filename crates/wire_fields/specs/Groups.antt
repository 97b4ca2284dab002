-- Seven bits more above a number, by mask and shift: the law that joins the groups. Assumes nothing.
use Rattle.std.specs.Prelude.{◌≡◌, ℕ, ◌+◌, ◌*◌, ◌%◌, ◌^◌, ◌<◌}
use Rattle.std.proofs.Common.{mod-eq_of_lt, mul_comm, add_comm}
use Rattle.std.specs.Int.Bits.{bit_and, bit_or, or_shifted_r}
use Rattle.std.proofs.lemmas.Nat.{and_mask}

-- The number with the low seven bits of a byte above its first `shift` bits.
abbrev pub joined : ℕ → ℕ → ℕ → ℕ
joined value byte shift = value + 2 ^ shift * (byte % 128)

pub join : (value byte shift : ℕ) → value < 2 ^ shift → byte % 128 * 2 ^ shift < 2 ^ 64
    → bit_or value ((bit_and byte 127 * 2 ^ shift) % 2 ^ 64) ≡ joined value byte shift
join value byte shift low fits =
    rw (and_mask byte 7, mod-eq_of_lt fits, or_shifted_r (byte % 128) shift value low, add_comm, mul_comm (byte % 128))
