-- What is reported of a message, by what the code has read of it. Assumes nothing.
use Rattle.std.specs.Prelude.{◌≡◌, List, ◌++◌, ℕ, ◌+◌, ◌<◌, ◌≤◌, length, Ok, Err}
use Rattle.std.proofs.Math.Path.{ap}
use Rattle.std.proofs.Common.{sym, ◌∙◌, arith, length-append, le-leb}
use Rattle.std.proofs.Math.ListN.{drop}
use Rattle.std.proofs.lemmas.List.Edits.{sets-eq}
use Rattle.std.proofs.lemmas.Bool.{lt-leb}
use Rattle.wire_fields.specs.Messages.{Reading}
use Rattle.wire_fields.specs.Numbers.{code_of}
use Rattle.wire_fields.specs.Readers.{no-ok, same-ok, same-err}
use Rattle.wire_fields.specs.declared.Fault.{Fault}
use Rattle.any_text.specs.Put.{Put}
use Rattle.wire_arbitration.specs.Update.{Update, reading}
use Rattle.wire_arbitration.specs.Seen.{raw_of}
use Rattle.wire_arbitration.specs.declared.Raw.{Raw}
use Rattle.wire_bytes.specs.Bytes.{field_bytes, field_length, out_too_short, Reported, reported_as, reported}
use Rattle.wire_bytes.specs.Little.{little-length}

pub field-bytes-length : (r : Raw) → length (field_bytes r) ≡ field_length
field-bytes-length r = simp (length-append, little-length)

pub fields-put : (r : Raw) (before after : List ℕ) (next : ℕ) → field_length ≤ length before → Put before 0 (field_bytes r) after next → after ≡ field_bytes r ++ drop field_length before
fields-put r before after next room p =
    let n = field-bytes-length r in
    let all : 0 + length (field_bytes r) ≡ field_length = omega arith in
    p.content ∙ sets-eq (field_bytes r) before 0 (omega arith) ∙ ap (λ (k : ℕ). field_bytes r ++ drop k before) all

module _ (message fields : List ℕ) where
  module _ (r : Raw) (is : Ok r ≡ raw_of (reading message)) where
    pub reports-fields : field_length ≤ length fields → reported message fields ≡ record { returned = 0; fields = field_bytes r ++ drop field_length fields }
    unfolding reported
    reports-fields room = go (reading message) is
      where
        go : (s : Reading Update) → Ok r ≡ raw_of s → reported_as s fields ≡ record { returned = 0; fields = field_bytes r ++ drop field_length fields }
        go (Ok u) e = simp (le-leb field_length (length fields) room) (ap (λ (x : Raw). record { returned = 0; fields = field_bytes x ++ drop field_length fields }) (sym (same-ok e)))
        go (Err why) e = absurd (no-ok e)

    pub reports-short : length fields < field_length → reported message fields ≡ record { returned = out_too_short; fields = fields }
    unfolding reported
    reports-short short = go (reading message) is
      where
        go : (s : Reading Update) → Ok r ≡ raw_of s → reported_as s fields ≡ record { returned = out_too_short; fields = fields }
        go (Ok u) e = simp (lt-leb field_length (length fields) short)
        go (Err why) e = absurd (no-ok e)

  pub reports-fault : (why : Fault) → Err why ≡ raw_of (reading message) → reported message fields ≡ record { returned = code_of why; fields = fields }
  unfolding reported
  reports-fault why is = go (reading message) is
    where
      go : (s : Reading Update) → Err why ≡ raw_of s → reported_as s fields ≡ record { returned = code_of why; fields = fields }
      go (Ok u) e = absurd (no-ok (sym e))
      go (Err other) e = ap (λ (w : Fault). record { returned = code_of w; fields = fields }) (sym (same-err e))

-- What is returned and the buffer, each by itself.
pub reported-both : {r s : Reported} → r ≡ s → (s.returned ≡ r.returned) × (s.fields ≡ r.fields)
reported-both e = (ap (λ (x : Reported). x.returned) (sym e), ap (λ (x : Reported). x.fields) (sym e))
