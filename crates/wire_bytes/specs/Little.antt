-- Bytes of a number, one after another. Assumes nothing.
use Rattle.std.specs.Prelude.{◌≡◌, refl, List, [], ◌∷◌, ◌++◌, ℕ, zero, suc, ◌+◌, ◌/◌, ◌%◌, ◌<◌, ◌≤◌, length, set}
use Rattle.std.proofs.Common.{ap, add-one, arith}
use Rattle.any_text.specs.Put.{Room, Put}
use Rattle.any_text.specs.Puts.{put-none, put_then, put-length}
use Rattle.wire_bytes.specs.Bytes.{little}

pub little-length : (n v : ℕ) → length (little n v) ≡ n
unfolding little
little-length zero v = refl
little-length (suc n) v = ap suc (little-length n (v / 256))

-- v without its low n bytes
unfoldable pub above : ℕ → ℕ → ℕ
above zero v = v
above (suc n) v = above n (v / 256)

pub above_more : (n v : ℕ) → above (suc n) v ≡ above n v / 256
unfolding above
above_more zero v = refl
above_more (suc n) v = above_more n (v / 256)

pub little-more : (n v : ℕ) → little (suc n) v ≡ little n v ++ (above n v % 256 ∷ [])
unfolding little above
little-more zero v = refl
little-more (suc n) v = ap (λ (l : List ℕ). v % 256 ∷ l) (little-more n (v / 256))

-- ---- the loop that puts them

pub record Putting (before : List ℕ) (at size v : ℕ) (buf : List ℕ) (left i : ℕ) : Type 0 where
  pub few : i ≤ size
  pub rest : left ≡ above i v
  pub put : Put before at (little i v) buf (at + i)

pub putting-starts : (buf : List ℕ) (at size v : ℕ) → Putting buf at size v buf v 0
unfolding little above
putting-starts buf at size v = record { few = omega arith; rest = refl; put = let e : at + 0 ≡ at = omega arith in rw e (put-none buf at) }

module _ {before : List ℕ} {at size v : ℕ} {buf : List ℕ} {left i : ℕ} (p : Putting before at size v buf left i) where
  pub putting-inside : Room before at (little size v) → i < size → at + i < length buf
  putting-inside room more =
      let m = little-length size v in
      let l = put-length p.put in
      let r = room.enough in
      omega arith

  pub putting-more : i < size → Putting before at size v (set buf (at + i) (left % 256)) (left / 256) (i + 1)
  putting-more more =
      let next : at + suc i ≡ at + i + 1 = omega arith in
      record {
        few = omega arith;
        rest = rw (add-one i, above_more i v) (ap (λ (x : ℕ). x / 256) p.rest);
        put = rw (add-one i, next, little-more i v, ← p.rest) (put_then p.put (record { content = refl; place = refl }));
      }

  pub putting-ends : size ≤ i → Put before at (little size v) buf (at + size)
  putting-ends all = let few = p.few in let same : i ≡ size = omega arith in rw (← same) p.put
