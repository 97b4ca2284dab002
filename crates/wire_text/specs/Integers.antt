-- The low 32 bits in decimal, as the code puts them. Assumes nothing.
use Rattle.std.specs.Prelude.{◌≡◌, [], ◌∷◌, ◌++◌, ℕ, suc, ◌-◌, ◌%◌, ◌^◌, ◌<◌, ◌≤◌}
use Rattle.std.proofs.Common.{ap, arith, lt-ltb, le-ltb}
use Rattle.std.proofs.lemmas.Nat.{and_mask}
use Rattle.any_text.specs.Decimal.{decimal}
use Rattle.wire_arbitration.specs.Arbitration as Arbitration
use Rattle.wire_arbitration.specs.Arbitration.{low32}
use Rattle.wire_arbitration.specs.Signed.{bits_of}
use Rattle.wire_text.specs.Printout.{integer}

pub integer-positive : (v : ℕ) → bits_of v < 2147483648 → integer (low32 v) ≡ decimal (bits_of v)
unfolding Arbitration.signed
integer-positive v h = rw (and_mask v 32) (let k : v % 2 ^ 32 < 2 ^ 31 = rw (and_mask v 32) at h in simp (lt-ltb (v % 2 ^ 32) (2 ^ 31) k))

pub integer-negative : (v : ℕ) → 2147483648 ≤ bits_of v → integer (low32 v) ≡ (45 ∷ []) ++ decimal (4294967296 - bits_of v)
unfolding Arbitration.signed
integer-negative v h =
    let k : 2 ^ 31 ≤ v % 2 ^ 32 = rw (and_mask v 32) at h in
    let same : suc (2 ^ 32 - 1 - v % 2 ^ 32) ≡ 4294967296 - v % 2 ^ 32 = omega arith in
    rw (and_mask v 32) (simp (le-ltb (v % 2 ^ 32) (2 ^ 31) k) (ap (λ (n : ℕ). (45 ∷ []) ++ decimal n) same))
