-- The text of a list, line by line. Assumes nothing.
use Rattle.std.specs.Prelude.{◌≡◌, List, [], ◌∷◌, ◌++◌, length}
use Rattle.std.proofs.Math.Path.{refl, ap}
use Rattle.std.proofs.Common.{sym, ◌∙◌, append_assoc, arith}
use Prim.Native.Nat.{ℕ, zero, suc, ◌<◌}
use Rattle.any_text.specs.Decimal.{decimal}
use Rattle.any_text.specs.Lines.{newline, refused_line}
use Rattle.any_text.specs.Line.{spaced, line, lines}
use Rattle.any_text.specs.Put.{Put}
use Rattle.any_text.specs.Puts.{put_then}
use Rattle.any_text.specs.Printed.{printing, refusing}
use Rattle.run_lists.specs.declared.Trailer.{Trailer}
use Rattle.run_lists.specs.EventList.{refusal}
use Rattle.run_lists.specs.Trails.{Trails}
use Rattle.list_words.specs.Names.{bytes, name_of}
use Rattle.list_text.specs.Shown.{or_number, kind_word, step_line_at, notes_line, list_text, shown_for, shown}

-- ---- the line of a step

module _ (kind : ℕ) {name : List ℕ} (n : name ≡ name_of kind) where
  pub no_name : length name ≡ 0 → decimal kind ≡ kind_word kind
  no_name e = go name e ∙ ap (λ (w : List ℕ). or_number w kind) n
    where
      go : (w : List ℕ) → length w ≡ 0 → decimal kind ≡ or_number w kind
      go [] h = refl
      go (b ∷ w) h = absurd (omega arith)

  pub with-name : 0 < length name → name ≡ kind_word kind
  with-name h = go name h ∙ ap (λ (w : List ℕ). or_number w kind) n
    where
      go : (w : List ℕ) → 0 < length w → w ≡ or_number w kind
      go [] h = absurd (omega arith)
      go (b ∷ w) h = refl

-- A word, and the rest of its line.
pub rest-line : (w : List ℕ) (node : ℕ) → w ++ line [] (node ∷ []) ≡ line w (node ∷ [])
unfolding line
rest-line w node = sym (append_assoc w (spaced (node ∷ [])) (newline ∷ []))

-- ---- the whole text

pub no-notes : (n : ℕ) → n ≡ 0 → [] ≡ notes_line n
no-notes n e = ap notes_line (sym e)

pub some-notes : (n : ℕ) → 0 < n → line (bytes "# note bytes left out:") (n ∷ []) ≡ notes_line n
some-notes zero h = absurd (omega arith)
some-notes (suc n) h = refl

pub whole-text : {list : List ℕ} {t : Trailer} → Trails list t → {buf m k o : List ℕ} {i j l : ℕ} → Put buf 0 (line (bytes "nodes") (t.nodes ∷ [])) m i
    → Put m i (notes_line t.first) k j → Put k j (lines (step_line_at list) t.records) o l → Put buf 0 (list_text list) o l
unfolding list_text
whole-text is p q r = rw (← is.nodes, ← is.records, ← is.first) (put_then (put_then p q) r)

-- ---- what is printed

module _ (list : List ℕ) where
  pub shows-text : refusal list ≡ 0 → shown list ≡ printing (list_text list)
  unfolding shown
  shows-text e = ap (λ (c : ℕ). shown_for c list) e

  pub shows-refusal : {n : ℕ} → n ≡ refusal list → 0 < n → shown list ≡ refusing (refused_line n)
  unfolding shown
  shows-refusal {n} e h = ap (λ (c : ℕ). shown_for c list) (sym e) ∙ go n h
    where
      go : (c : ℕ) → 0 < c → shown_for c list ≡ refusing (refused_line c)
      go zero h = absurd (omega arith)
      go (suc c) h = refl
