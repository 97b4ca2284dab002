use Prim.Native.Nat.{ℕ}
use lib.ListN.{length-replicate}
use Rattle.list_source.proofs.room.Goals as goal

pub returns : goal.returns
returns c = length-replicate {A = ℕ} 2097154 0
