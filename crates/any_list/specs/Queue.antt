-- Putting into any queue and taking off it, and what it then holds. Stated once, over the element type. Assumes nothing.
use Rattle.std.proofs.Math.Path.{◌≡◌, refl, sym, ap}
use Rattle.std.proofs.Common.{◌∙◌, length-append}
use Rattle.std.specs.Prelude.{Bool, leb, drop}
use Rattle.std.proofs.Math.Bool.{true, false, not, cond}
use mathlib.Core.List.{List, [], ◌∷◌, ◌++◌}
use Prim.Native.Nat.{ℕ, suc, ◌+◌, ◌-◌, ◌≤◌, ◌<◌}
use native.Mathlib.Omega.{arith}
use Rattle.std.proofs.Math.Decide.{dec_lt}
use Rattle.std.proofs.Math.Dec.{ltb, eqb, eqb-suc-zero, ltb→lt}
use Rattle.std.proofs.Math.ListN.{length, get_or, set}
use borrow.Author.Tests.{lt-ltb, le-ltb, le-leb, lt-leb}
use Rattle.rules.specs.Limits.{queue_length}
use Rattle.rules.specs.Queues.{push, rest, room, first, empty}
use Rattle.any_list.specs.Arrays.{Queue, packed, held}
use Rattle.any_list.specs.Padded.{padded-push, padded-pop, held-padded}

module _ {B : Type 0} where
  abbrev pub full : Queue B → Bool
  full q = leb queue_length q.len

  -- x goes last; a full queue stays as it is
  unfoldable pub pushed : Queue B → B → Queue B
  pushed q x = cond (full q) q (record { items = set q.items q.len x; len = q.len + 1 })

  -- the head is taken off, and a blank stands at the last place; an empty queue stays as it is
  unfoldable pub popped : B → Queue B → Queue B
  popped blank q = cond (eqb q.len 0) q (record { items = drop 1 q.items ++ (blank ∷ []); len = q.len - 1 })

-- ---- a queue that holds a list of the specification: `rep` writes an element, `hold` reads it

-- the queue is what it holds with blanks behind it, and holds no more than it may
pub record Ordered {A B : Type 0} (blank : B) (rep : A → B) (hold : B → A) (q : Queue B) : Type 0 where
  pub same : packed blank rep (held hold q) ≡ q
  pub short : length (held hold q) ≤ queue_length

module _ {A B : Type 0} (blank : B) (rep : A → B) (hold : B → A) where
  pub ordered-packed : ((x : A) → hold (rep x) ≡ x) → (l : List A) → length l ≤ queue_length → Ordered blank rep hold (packed blank rep l)
  ordered-packed back l h = let e = held-padded blank rep hold back queue_length l in record { same = ap (packed blank rep) e; short = rw e h }

  module _ (q : Queue B) (o : Ordered blank rep hold q) where
    pub len-held : q.len ≡ length (held hold q)
    len-held = sym (ap (λ (x : Queue B). x.len) o.same)

    -- fullness is that of the list
    pub room-held : room (held hold q) ≡ not (full q)
    unfolding room
    room-held = go (dec_lt q.len queue_length)
      where
        go : Dec (q.len < queue_length) → ltb (length (held hold q)) queue_length ≡ not (leb queue_length q.len)
        go (yes h) = rw (← len-held) (simp (lt-ltb q.len queue_length h, lt-leb queue_length q.len h))
        go (no h) = rw (← len-held) (let k : queue_length ≤ q.len = omega arith in simp (le-ltb q.len queue_length k, le-leb queue_length q.len k))

    pub push-held : (x : A) → full q ≡ false → pushed q (rep x) ≡ packed blank rep (push x (held hold q))
    unfolding pushed push room
    push-held x f =
        let n : q.len ≡ length (held hold q) = len-held in
        let k : length (held hold q) < queue_length = ltb→lt (length (held hold q)) queue_length (rw (roomy f) tt) in
        ap (λ (b : Bool). cond b q (record { items = set q.items q.len (rep x); len = q.len + 1 })) f
        ∙ (λ i. record {
          items = (ap (λ (p : Queue B). set p.items p.len (rep x)) (sym o.same) ∙ padded-push blank rep queue_length (held hold q) x k) i;
          len = (ap (λ (m : ℕ). m + 1) n ∙ sym (length-append (held hold q) (x ∷ []))) i;
        })
      where
        roomy : full q ≡ false → ltb (length (held hold q)) queue_length ≡ true
        roomy f = room-held ∙ ap not f

    -- taking off the head of a queue that holds something, or of one that holds nothing
    pub pop-held : popped blank q ≡ packed blank rep (rest (held hold q))
    unfolding popped rest
    pop-held = ap (popped blank) (sym o.same) ∙ go (held hold q) o.short
      where
        go : (l : List A) → length l ≤ queue_length → popped blank (packed blank rep l) ≡ packed blank rep (rest l)
        go [] h = refl
        go (x ∷ l) h = rw (eqb-suc-zero (length l)) λ i. record { items = padded-pop blank rep (queue_length - 1) x l (let z : suc (length l) ≤ queue_length = h in omega arith) i; len = (one (length l)) i }
          where
            one : (k : ℕ) → suc k - 1 ≡ k
            one k = omega arith

    -- the head stands at the first place
    pub head-held : (d : B) (other : A) → empty (held hold q) ≡ false → get_or q.items 0 d ≡ rep (first other (held hold q))
    unfolding first empty
    head-held d other e = ap (λ (p : Queue B). get_or p.items 0 d) (sym o.same) ∙ go (held hold q) e
      where
        go : (l : List A) → empty l ≡ false → get_or (packed blank rep l).items 0 d ≡ rep (first other l)
        go [] e = let z : ◌≡◌ {A = ℕ} 0 1 = cc in absurd (omega arith)
        go (x ∷ l) e = refl

    pub empty-held : empty (held hold q) ≡ eqb q.len 0
    unfolding empty
    empty-held = go (held hold q) ∙ ap (λ (k : ℕ). eqb k 0) (sym len-held)
      where
        go : (l : List A) → empty l ≡ eqb (length l) 0
        go [] = refl
        go (x ∷ l) = sym (eqb-suc-zero (length l))
