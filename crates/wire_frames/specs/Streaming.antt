-- What the code keeps of a stream message is what the message carries; `proofs/Streaming` has its arbitration message. Assumes nothing.
use Rattle.std.specs.Prelude.{◌≡◌, refl, List, ℕ, ◌≤◌, ◌<◌, length, Result, Ok, Err}
use Rattle.std.proofs.Common.{sym, ap, ◌∙◌}
use native.Mathlib.Omega.{arith}
use borrow.Author.Tests.{ne_eqb, le-leb, lt-leb}
use Rattle.wire_fields.specs.Fields.{Field, varint, fixed, bytes}
use Rattle.wire_fields.specs.Messages.{Reading, message}
use Rattle.wire_fields.specs.Places.{field_at, field_of}
use Rattle.wire_fields.specs.Readers.{no-ok, same-ok}
use Rattle.wire_fields.specs.Found.{FoundField}
use Rattle.wire_fields.specs.Walking.{Walking, walking-starts, walking-ends, walking-faults, walking_on, walking-breaks}
use Rattle.wire_fields.specs.declared.Fault.{Fault}
use Rattle.wire_fields.specs.declared.Field as Placed
use Rattle.wire_frames.specs.Stream.{Carried, nothing, took, carried}
use Rattle.wire_frames.specs.Frames.{carried_as, message_of}
use Rattle.wire_frames.specs.declared.Carried.{Carried as Kept}
use Rattle.wire_frames.specs.declared.Carried.TheVariants.{Other}

-- What a field makes of what was carried, as the code has both.
abbrev pub Takes : Field → Kept → Result Kept Fault → Type 0
Takes f before after = (c : Carried) → before ≡ carried_as c → after ≡ message_of (took f c)

kept : (c : Carried) (before : Kept) → before ≡ carried_as c → Ok before ≡ message_of (Ok c)
kept c before e = ap (λ (k : Kept). Ok k) e

-- ---- a field, by what it holds and its number

pub takes-number : (n value : ℕ) (before : Kept) → Takes (varint n value) before (Ok before)
takes-number n value before c e = kept c before e

pub takes-fixed : (n : ℕ) (before : Kept) → Takes (fixed n) before (Ok before)
takes-fixed n before c e = kept c before e

module _ (n : ℕ) (held : List ℕ) (before : Kept) where
  pub takes-below : n < 1 → Takes (bytes n held) before (Ok before)
  takes-below small c e = simp (ne_eqb n 1 (λ z. omega arith), lt-leb 2 n (omega arith)) (kept c before e)

  pub takes-beyond : 5 < n → Takes (bytes n held) before (Ok before)
  takes-beyond large c e = simp (ne_eqb n 1 (λ z. omega arith), le-leb 2 n (omega arith), lt-leb n 5 large) (kept c before e)

  pub takes-other : 2 ≤ n → n ≤ 5 → Takes (bytes n held) before (Ok (Other n))
  takes-other low high c e = simp (ne_eqb n 1 (λ z. omega arith), le-leb 2 n low, le-leb n 5 high)

-- ---- the loop over the fields

-- The fields before the place have given what is known.
pub record Carrying (l : List ℕ) (known : Kept) (at : ℕ) : Type 0 where
  pub c : Carried
  pub shows : known ≡ carried_as c
  pub walks : Walking took l nothing c at

module _ (l : List ℕ) where
  pub carrying-starts : Carrying l (carried_as nothing) 0
  carrying-starts = record { c = nothing; shows = refl; walks = walking-starts took l nothing }

  module _ {known : Kept} {at : ℕ} (w : Carrying l known at) where
    pub carrying-ends : length l ≤ at → Ok known ≡ message_of (carried l)
    unfolding carried
    carrying-ends h = kept w.c known w.shows ∙ ap message_of (sym (walking-ends took l nothing w.walks h))

    module _ (more : at < length l) where
      pub carrying-faults : (why : Fault) → field_at l at ≡ Err why → Err why ≡ message_of (carried l)
      unfolding carried
      carrying-faults why is = ap message_of (sym (walking-faults took l nothing w.walks more why is))

      module _ (r : Placed.Field) (found : FoundField l at r) where
        pub carrying-on : (after : Kept) → Takes (field_of l r) known (Ok after) → Carrying l after r.next
        carrying-on after takes = go (took (field_of l r) w.c) refl (takes w.c w.shows)
          where
            go : (s : Reading Carried) → took (field_of l r) w.c ≡ s → Ok after ≡ message_of s → Carrying l after r.next
            go (Ok d) e is = record { c = d; shows = same-ok is; walks = walking_on took l nothing w.walks more r found d e }
            go (Err why) e is = absurd (no-ok is)

        pub carrying-breaks : (why : Fault) → Takes (field_of l r) known (Err why) → Err why ≡ message_of (carried l)
        unfolding carried
        carrying-breaks why takes = go (took (field_of l r) w.c) refl (takes w.c w.shows)
          where
            go : (s : Reading Carried) → took (field_of l r) w.c ≡ s → Err why ≡ message_of s → Err why ≡ message_of (message took nothing l)
            go (Ok d) e is = absurd (no-ok (sym is))
            go (Err other) e is = is ∙ ap message_of (sym (walking-breaks took l nothing w.walks more r found other e))
