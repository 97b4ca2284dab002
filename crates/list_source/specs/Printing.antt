-- What is printed for a text, by the calls that put it. Assumes nothing.
use Rattle.std.specs.Prelude.{◌≡◌, ◌≢◌, Bool, length, take, Ok, Err}
use Rattle.std.proofs.Math.Path.{refl, sym, ap}
use Rattle.std.proofs.Common.{ap₂, ◌∙◌, arith, le-leb}
use Rattle.std.proofs.Math.Bool.{cond}
use mathlib.Core.List.{List, [], ◌∷◌, ◌++◌}
use Prim.Native.Nat.{ℕ, zero, suc, ◌≤◌, ◌<◌}
use Rattle.std.proofs.lemmas.Bool.{lt-leb}
use Rattle.any_text.specs.Decimal.{decimal}
use Rattle.any_text.specs.Lines.{refused_line}
use Rattle.any_text.specs.Line as A
use Rattle.any_text.specs.Put.{Put}
use Rattle.any_text.specs.Puts.{put-length, put-read}
use Rattle.any_text.specs.Printed.{refusing, Prints}
use Rattle.any_text.specs.Printing.{prints-refusal, prints-output}
use Rattle.run_lists.specs.EventList.{longest, over}
use Rattle.run_lists.specs.Listed.{list_of}
use Rattle.run_lists.specs.Made.{list_length}
use Rattle.run_lists.specs.Written.{over-more}
use Rattle.list_write.specs.Write as W
use Rattle.list_write.specs.Write.{steps_in, length_of, write_refusal, wrote}
use Rattle.list_write.specs.Steps.{kept, code-written, not_written}
use Rattle.list_write.specs.Back.{steps-flat}
use Rattle.list_words.specs.Names.{bytes}
use Rattle.list_source.specs.declared.Taken.{Taken}
use Rattle.list_source.specs.declared.RefusedLine.{RefusedLine}
use Rattle.list_source.specs.Source.{read_text}
use Rattle.list_source.specs.Printed.{longest_text, line_refused, listed, written, of_reading, output}
use Rattle.list_source.specs.Reads.{code_of, Read}

-- A line that was read and is refused.
pub said-code : (code k : ℕ) → code ≢ 0 → bytes "refused " ++ decimal code ++ A.line (bytes " line") (k ∷ []) ≡ line_refused code k
said-code zero k h = absurd (h refl)
said-code (suc code) k h = refl

-- ---- the writer's answer

module _ (nodes : ℕ) (steps out line : List ℕ) (size : length out ≡ longest) where
  is_code : (wrote nodes steps out).code ≡ write_refusal nodes (steps_in steps) longest
  is_code = code-written nodes steps out ∙ ap (write_refusal nodes (steps_in steps)) size

  pub prints-code : {code : ℕ} {out' : List ℕ} → code ≡ (wrote nodes steps out).code → out' ≡ (wrote nodes steps out).out → 0 < code
      → {line' : List ℕ} {j : ℕ} → Put line 0 (refused_line code) line' j → j ≤ length line' → Prints (written nodes (steps_in steps)) out line out' line' (Err j)
  unfolding written wrote
  prints-code {code} c o z p h =
      let same = (not_written nodes steps out (c ∙ code-written nodes steps out) z).2 in
      rw (o, ← same) (prints-refusal (ap (λ (x : ℕ). listed x nodes (steps_in steps)) (sym (c ∙ is_code)) ∙ go code z) out p h)
    where
      go : (x : ℕ) → 0 < x → listed x nodes (steps_in steps) ≡ refusing (refused_line x)
      go zero z = absurd (omega arith)
      go (suc x) z = refl

  pub prints-list : {code n : ℕ} {out' : List ℕ} → code ≡ (wrote nodes steps out).code → n ≡ (wrote nodes steps out).length → out' ≡ (wrote nodes steps out).out → code ≡ 0
      → Prints (written nodes (steps_in steps)) out line out' line (Ok n)
  unfolding written wrote
  prints-list {code} {n} {out'} c l o z =
      let es = steps_in steps in
      let none : 0 ≡ write_refusal nodes es (length out) = sym z ∙ c ∙ code-written nodes steps out in
      let k = kept nodes steps out none in
      let r = k.room in
      let m = list_length nodes es k.nodes-in.lower k.nodes-in.upper k.short in
      let long : n ≡ length_of es = l ∙ ap (λ (x : ℕ). (W.written x nodes es out).length) (sym none) in
      let front : out' ≡ over (list_of nodes es) out = o ∙ ap (λ (x : ℕ). (W.written x nodes es out).out) (sym none) in
      let put : Put out 0 (list_of nodes es) out' n = record {
        content = front ∙ sym (over-more [] (list_of nodes es) out (omega arith));
        place = omega arith;
      } in
      let same = put-length put in
      prints-output (ap (λ (x : ℕ). listed x nodes es) (sym (none ∙ ap (write_refusal nodes es) size))) line put (omega arith)

-- ---- a text that is read

module _ (text out line : List ℕ) (short : length text ≤ longest_text) where
  said : of_reading (read_text text).line (read_text text) ≡ output text
  unfolding output
  said = ap (λ (c : Bool). cond c (of_reading (read_text text).line (read_text text)) (refusing (A.line (bytes "refused long") []))) (sym (le-leb (length text) longest_text short))

  module _ {before after : List ℕ} where
    pub prints-line : {f : RefusedLine} → Read (read_text text) before after (Err f) → {line' : List ℕ} {j : ℕ} → Put line 0 (line_refused (code_of f.fault) f.line) line' j → j ≤ length line'
        → Prints (output text) out line out line' (Err j)
    prints-line {f} r p h = let (number, some, code) = r.says in prints-refusal (sym said ∙ go (read_text text).line number some code) out p h
      where
        go : (k : ℕ) → f.line ≡ k → 0 < f.line → code_of f.fault ≡ (read_text text).code → of_reading k (read_text text) ≡ refusing (line_refused (code_of f.fault) f.line)
        go zero e z c = absurd (omega arith)
        go (suc k) e z c = ap₂ (λ (c i : ℕ). refusing (line_refused c i)) (sym c) (sym e)

    module _ {t : Taken} (r : Read (read_text text) before after (Ok t)) where
      pub steps-count : t.steps ≤ length after
      steps-count = let e = r.says.2 in let h = r.fits in omega arith

      steps-read : steps_in (take t.steps after) ≡ (read_text text).steps
      steps-read =
          let n = put-length r.put in
          let h = r.fits in
          ap (λ (n : ℕ). steps_in (take n after)) r.says.2 ∙ ap steps_in (put-read r.put (omega arith)) ∙ steps-flat (read_text text).steps r.small

      pub prints-written : written t.nodes (steps_in (take t.steps after)) ≡ output text
      prints-written = ap₂ written r.says.1 steps-read ∙ ap (λ (k : ℕ). of_reading k (read_text text)) (sym r.says.0) ∙ said

pub prints-long : (text : List ℕ) → longest_text < length text → refusing (bytes "refused long\n") ≡ output text
unfolding output A.line A.spaced
prints-long text h = ap (λ (c : Bool). cond c (of_reading (read_text text).line (read_text text)) (refusing (A.line (bytes "refused long") []))) (sym (lt-leb (length text) longest_text h))
