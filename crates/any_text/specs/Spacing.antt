-- Numbers put one after another, and how long a line is. Assumes nothing.
use Rattle.std.specs.Prelude.{◌≡◌, refl, ℕ, suc, ◌+◌, ◌*◌, ◌≤◌, ◌<◌, length, get_or, take, drop}
use Rattle.std.proofs.Common.{sym, ◌∙◌, add-one, arith, take-append-drop}
use Rattle.std.proofs.Math.Path.{ap}
use mathlib.Core.List.{List, [], ◌∷◌, ◌++◌, append_assoc, append-nil}
use Rattle.std.proofs.Math.ListN.{length-append}
use Rattle.std.proofs.Math.Seq.{take-suc}
use Rattle.any_text.specs.Decimal.{decimal}
use Rattle.any_text.specs.Digits.{width}
use Rattle.any_text.specs.Lines.{blank, newline, record_line, writes_line, write_line, refused_line}
use Rattle.any_text.specs.Put.{Room, Put}
use Rattle.any_text.specs.Puts.{put-none, put_then, room-first, room-then}
use Rattle.any_text.specs.Line.{spaced, line, row}

spaced-append : (a b : List ℕ) → spaced (a ++ b) ≡ spaced a ++ spaced b
unfolding spaced
spaced-append [] b = refl
spaced-append (n ∷ a) b = ap (λ (l : List ℕ). (blank ∷ []) ++ decimal n ++ l) (spaced-append a b) ∙ sym (append_assoc ((blank ∷ []) ++ decimal n) (spaced a) (spaced b))

-- ---- the loop

module _ (ns : List ℕ) where
  pub spaced-none : (l : List ℕ) (at : ℕ) → Put l at (spaced (take 0 ns)) l at
  unfolding spaced
  spaced-none l at = put-none l at

  module _ (i : ℕ) (h : i < length ns) where
    one_more : spaced (take (i + 1) ns) ≡ spaced (take i ns) ++ ((blank ∷ []) ++ decimal (get_or ns i 0))
    unfolding spaced
    one_more = rw (add-one i, take-suc ns i 0 h) (spaced-append (take i ns) (get_or ns i 0 ∷ []) ∙ ap (λ (l : List ℕ). spaced (take i ns) ++ l) (append-nil ((blank ∷ []) ++ decimal (get_or ns i 0))))

    pub spaced-more : {l m k j : List ℕ} {at a b c : ℕ} → Put l at (spaced (take i ns)) m a → Put m a (blank ∷ []) k b → Put k b (decimal (get_or ns i 0)) j c
        → Put l at (spaced (take (i + 1) ns)) j c
    spaced-more p q r = rw one_more (put_then p (put_then q r))

    -- what is left of the room
    room-left : {l m : List ℕ} {at a : ℕ} → Room l at (spaced ns) → Put l at (spaced (take i ns)) m a → Room m a ((blank ∷ []) ++ decimal (get_or ns i 0))
    room-left {l} {m} {at} {a} r p =
        let rest = spaced (drop (i + 1) ns) in
        let all : spaced ns ≡ (spaced (take i ns) ++ ((blank ∷ []) ++ decimal (get_or ns i 0))) ++ rest =
        ap spaced (sym (take-append-drop (i + 1) ns)) ∙ spaced-append (take (i + 1) ns) (drop (i + 1) ns) ∙ ap (λ (x : List ℕ). x ++ rest) one_more in
        room-then p (room-first rest (rw all at r))

    pub room-blank : {l m : List ℕ} {at a : ℕ} → Room l at (spaced ns) → Put l at (spaced (take i ns)) m a → Room m a (blank ∷ [])
    room-blank r p = room-first (decimal (get_or ns i 0)) (room-left r p)

    pub room-number : {l m k : List ℕ} {at a b : ℕ} → Room l at (spaced ns) → Put l at (spaced (take i ns)) m a → Put m a (blank ∷ []) k b → Room k b (decimal (get_or ns i 0))
    room-number r p q = room-then q (room-left r p)

-- ---- a line by its parts, and the lines of the output among these

pub line-parts : (word ns : List ℕ) → line word ns ≡ word ++ (spaced ns ++ (newline ∷ []))
unfolding line
line-parts word ns = append_assoc word (spaced ns) (newline ∷ [])

pub record-row : (place kind node answer : ℕ) → record_line place kind node answer ≡ row place (kind ∷ node ∷ answer ∷ [])
unfolding record_line row spaced decimal
record-row place kind node answer = simp (append_assoc, append-nil) refl

pub write-row : (node term : ℕ) → write_line node term ≡ row node (term ∷ [])
unfolding write_line row spaced
write-row node term = simp append_assoc refl

-- "writes"
pub writes-parts : (n : ℕ) → writes_line n ≡ line (119 ∷ 114 ∷ 105 ∷ 116 ∷ 101 ∷ 115 ∷ []) (n ∷ [])
unfolding writes_line line spaced
writes-parts n = simp append_assoc refl

-- "refused"
pub refused-parts : (n : ℕ) → refused_line n ≡ line (114 ∷ 101 ∷ 102 ∷ 117 ∷ 115 ∷ 101 ∷ 100 ∷ []) (n ∷ [])
unfolding refused_line line spaced
refused-parts n = simp append_assoc refl

-- ---- how long a line is, of numbers that fit 64 bits

spaced-width : (ns : List ℕ) → ((i : ℕ) → get_or ns i 0 < 18446744073709551616) → length (spaced ns) ≤ 21 * length ns
unfolding spaced
spaced-width [] h = omega arith
spaced-width (n ∷ ns) h =
    let w = width n 19 (let k = h 0 in omega arith) in
    let r = spaced-width ns (λ i. h (suc i)) in
    simp length-append (omega arith)

module _ (word ns : List ℕ) (small : (i : ℕ) → get_or ns i 0 < 18446744073709551616) where
  pub line-width : length (line word ns) ≤ length word + 21 * length ns + 1
  unfolding line
  line-width = let w = spaced-width ns small in simp length-append (omega arith)

  pub line-room : {l : List ℕ} {at : ℕ} → at + (length word + 21 * length ns + 1) ≤ length l → Room l at (line word ns)
  line-room h = record { enough = let w = line-width in omega arith }

  pub line-end : {l m : List ℕ} {at i : ℕ} → Put l at (line word ns) m i → i ≤ at + (length word + 21 * length ns + 1)
  line-end p = let w = line-width in let z = p.place in omega arith
