-- Bytes put into a buffer.
use Rattle.std.specs.Prelude.{◌≡◌, List, ℕ, ◌+◌, ◌≤◌, length}
use Rattle.std.proofs.lemmas.List.Edits.{sets}

-- From the place on the bytes find room.
pub record Room (buffer : List ℕ) (at : ℕ) (bytes : List ℕ) : Type 0 where
  pub enough : at + length bytes ≤ length buffer

-- From the place on stand the bytes, all else is as before, and `next` is the place behind them.
pub record Put (before : List ℕ) (at : ℕ) (bytes after : List ℕ) (next : ℕ) : Type 0 where
  pub content : after ≡ sets before at bytes
  pub place : next ≡ at + length bytes
