-- How long the text can be, and which text it is. Assumes nothing.
use Rattle.std.specs.Prelude.{◌≡◌, refl, Bool, true, false, List, ℕ, ◌-◌, ◌^◌, ◌<◌, ◌≤◌, length, ltb, Ok, Err}
use Rattle.std.proofs.Common.{sym, ap, ◌∙◌, arith, length-append, ltb-true, ltb-false, le-leb}
use Rattle.std.proofs.lemmas.Bool.{lt-leb}
use Rattle.wire_fields.specs.Messages.{Reading}
use Rattle.wire_fields.specs.Numbers.{code_of}
use Rattle.wire_fields.specs.Readers.{no-ok, same-ok, same-err}
use Rattle.wire_fields.specs.declared.Fault.{Fault}
use Rattle.any_text.specs.Lines.{refused_line}
use Rattle.any_text.specs.Digits.{width}
use Rattle.wire_arbitration.specs.Update.{Update, reading}
use Rattle.wire_arbitration.specs.Seen.{raw_of}
use Rattle.wire_arbitration.specs.Arbitration.{low32}
use Rattle.wire_arbitration.specs.Signed.{bits_of}
use Rattle.wire_arbitration.specs.declared.Raw.{Raw}
use Rattle.wire_text.specs.Printout.{flag_word, integer, role_lines, election_lines, status_lines, field_lines, text_of, longest_message, bad_length, printout}
use Rattle.wire_text.specs.Integers.{integer-positive, integer-negative}

flag-width : (b : Bool) → length (flag_word b) ≤ 8
flag-width true = omega arith
flag-width false = omega arith

integer-width : (v : ℕ) → length (integer (low32 v)) ≤ 11
integer-width v = go (ltb (bits_of v) 2147483648) refl
  where
    go : (b : Bool) → ltb (bits_of v) 2147483648 ≡ b → length (integer (low32 v)) ≤ 11
    go true e =
        let small = ltb-true (bits_of v) 2147483648 e in
        let w = width (bits_of v) 9 (omega arith) in
        rw (integer-positive v small) (omega arith)
    go false e =
        let large = ltb-false (bits_of v) 2147483648 e in
        let w = width (4294967296 - bits_of v) 9 (omega arith) in
        rw (integer-negative v large) (omega arith)

pub field-lines-width : (r : Raw) → r.device < 2 ^ 64 → r.id < 2 ^ 64 → r.high < 2 ^ 64 → r.low < 2 ^ 64 → length (field_lines r) ≤ 207
unfolding field_lines role_lines election_lines status_lines
field-lines-width r d i h l =
    let a = width r.device 19 (omega arith) in
    let b = width r.id 19 (omega arith) in
    let c = width r.high 19 (omega arith) in
    let e = width r.low 19 (omega arith) in
    let f = flag-width r.role in
    let g = flag-width r.election in
    let k = flag-width r.status in
    let z = integer-width r.error in
    simp length-append (omega arith)

-- ---- which text

pub too_long : (message : List ℕ) → longest_message < length message → printout message ≡ refused_line bad_length
unfolding printout
too_long message h = simp (lt-leb (length message) longest_message h)

module _ (message : List ℕ) (short : length message ≤ longest_message) where
  text-of : printout message ≡ text_of (reading message)
  unfolding printout
  text-of = simp (le-leb (length message) longest_message short)

  pub prints-fields : (r : Raw) → Ok r ≡ raw_of (reading message) → printout message ≡ field_lines r
  prints-fields r is = text-of ∙ go (reading message) is
    where
      go : (s : Reading Update) → Ok r ≡ raw_of s → text_of s ≡ field_lines r
      go (Ok u) e = ap field_lines (sym (same-ok e))
      go (Err why) e = absurd (no-ok e)

  pub prints-refusal : (why : Fault) → Err why ≡ raw_of (reading message) → printout message ≡ refused_line (code_of why)
  prints-refusal why is = text-of ∙ go (reading message) is
    where
      go : (s : Reading Update) → Err why ≡ raw_of s → text_of s ≡ refused_line (code_of why)
      go (Ok u) e = absurd (no-ok (sym e))
      go (Err other) e = ap (λ (w : Fault). refused_line (code_of w)) (sym (same-err e))
