-- Which record stands where after an exchange, by the tests that the code makes. Assumes nothing.
use Rattle.std.specs.Prelude.{◌≡◌, Bool, true, false, ℕ, ◌+◌, ◌-◌, ◌≤◌, ◌<◌}
use Rattle.std.proofs.Common.{arith, lt-ltb, le-ltb, le-leb, eq-eqb, ne_eqb}
use Rattle.std.proofs.Math.Decide.{dec_lt, ℕ_discrete}
use Rattle.std.proofs.lemmas.Bool.{lt-leb}
use Rattle.log_exchange.specs.Exchange.{moved_up, moved_down, moved}

module _ (x y i : ℕ) where
  pub before-both : (up : Bool) → i < x → i ≡ moved up x y i
  before-both true h = rw (lt-ltb i x h)
  before-both false h = rw (lt-ltb i x h)

  module _ (h : x ≤ i) where
    pub up_first : i ≡ x → y ≡ moved_up x y i
    up_first e = rw (le-ltb i x h, eq-eqb i x e)

    module _ (d : i ≡ x → ⊥) where
      pub up-passed : i ≤ y → i - 1 ≡ moved_up x y i
      up-passed k = rw (le-ltb i x h, ne_eqb i x d, le-leb i y k)

      pub up-behind : y < i → i ≡ moved_up x y i
      up-behind k = rw (le-ltb i x h, ne_eqb i x d, lt-leb i y k)

    pub down-passed : i < y → i + 1 ≡ moved_down x y i
    down-passed k = rw (le-ltb i x h, lt-ltb i y k)

    module _ (k : y ≤ i) where
      pub down-last : i ≡ y → x ≡ moved_down x y i
      down-last e = rw (le-ltb i x h, le-ltb i y k, eq-eqb i y e)

      pub down-behind : (i ≡ y → ⊥) → i ≡ moved_down x y i
      down-behind d = rw (le-ltb i x h, le-ltb i y k, ne_eqb i y d)

-- Every place has one of the records.
pub moved_inside : (up : Bool) (x y i n : ℕ) → x < y → y < n → i < n → moved up x y i < n
moved_inside up x y i n a b c = go up (dec_lt i x)
  where
    at_up : x ≤ i → Dec (i ≡ x) → Dec (y < i) → moved_up x y i < n
    at_up h (yes e) k = rw (← up_first x y i h e) b
    at_up h (no d) (yes k) = rw (← up-behind x y i h d k) c
    at_up h (no d) (no k) = rw (← up-passed x y i h d (omega arith)) (omega arith)

    at-down : x ≤ i → Dec (i < y) → Dec (i ≡ y) → moved_down x y i < n
    at-down h (yes k) e = rw (← down-passed x y i h k) (omega arith)
    at-down h (no k) (yes e) = rw (← down-last x y i h (omega arith) e) (omega arith)
    at-down h (no k) (no d) = rw (← down-behind x y i h (omega arith) d) c

    go : (up : Bool) → Dec (i < x) → moved up x y i < n
    go up (yes h) = rw (← before-both x y i up h) c
    go true (no h) = at_up (omega arith) (ℕ_discrete i x) (dec_lt y i)
    go false (no h) = at-down (omega arith) (dec_lt i y) (ℕ_discrete i y)
