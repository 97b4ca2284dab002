-- There and back: what `write_list` makes of the text that `read_list` prints for a list. Assumes nothing.
use Rattle.std.specs.Prelude.{◌≡◌, Bool, true, false, not, ◌&&◌, ◌||◌, Option, Some, None, ℕ, zero, suc, ◌+◌, ◌*◌, ◌≤◌, ◌<◌, T, eqb, leb, length, get_or}
use Rattle.std.proofs.Math.Path.{refl, ap}
use Rattle.std.proofs.Common.{sym, ◌∙◌, true≢false, arith, length-append}
use Rattle.std.proofs.Math.Option.{none}
use mathlib.Core.List.{List, [], ◌∷◌, ◌++◌, append_assoc, append-nil}
use Rattle.std.proofs.Math.Decide.{ℕ_discrete, dec_lt}
use Rattle.std.proofs.Math.ListN.{get_or-eq_default}
use borrow.Author.Tests.{le-leb, leb-true, eqb-true, ne_eqb, not-true}
use Rattle.rules.specs.Range.{all}
use Rattle.rules.specs.Step.{Event, kinds}
use Rattle.rules_laws.specs.All.{All}
use Rattle.rules_laws.specs.Tests.{is_within, is-yes}
use Rattle.rules_exchange.specs.Independent.{exists}
use Rattle.any_list.specs.Arrays.{table}
use Rattle.any_text.specs.Decimal.{digit, decimal}
use Rattle.any_text.specs.Digits.{Digits, end, next, only-digits, some-digit, says-itself, width}
use Rattle.any_text.specs.Lines.{blank, newline}
use Rattle.any_text.specs.Line.{spaced, line, lines}
use Rattle.any_text.specs.Lined.{lines-first}
use Rattle.any_text.specs.Spacing.{line-width}
use Rattle.any_words.specs.Text as W
use Rattle.any_words.specs.Text.{is_newline, is_blank, is_digit, pieces, full, words, same, number_of}
use Rattle.any_words.specs.Numbers.{first-true, both_true}
use Rattle.any_words.specs.Joined.{clear, clear_both, clear-number, piece_then, piece-last}
use Rattle.list_words.specs.declared.Line.TheVariants.{Step}
use Rattle.list_words.specs.Names.{bytes, names, name_of}
use Rattle.list_words.specs.Line.{small, byte_of, kind_named, kind_said, said, of_words, is_hash, line_of}
use Rattle.rules.specs.Limits.{most_nodes}
use Rattle.rules.specs.Range.{within}
use Rattle.rules_laws.specs.InRange.{Within}
use Rattle.any_text.specs.Printed.{printing, out_of}
use Rattle.run_lists.specs.EventList.{longest, byte_at, first_record, record_count, node_count, refusal, record_at, records}
use Rattle.run_lists.specs.Listed.{list_of}
use Rattle.run_lists.specs.Good.{good, records-length}
use Rattle.run_lists.specs.Made.{Small}
use Rattle.list_write.specs.Back.{exists-good, none-bad, list_back}
use Rattle.list_source.specs.Source.{Reading, read_from, read_text}
use Rattle.list_source.specs.Printed.{longest_text, written, output}
use Rattle.list_text.specs.Shown.{or_number, step_line, notes_line, list_text, shown}

-- ---- a number that is printed is read

digit-is : (d : ℕ) → d < 10 → is_digit (digit d) ≡ true
digit-is d h = rw (le-leb 48 (48 + d) (omega arith), le-leb (48 + d) 57 (omega arith)) refl

all_digits : (l : List ℕ) → Digits l → all is_digit l ≡ true
unfolding all
all_digits k end = refl
all_digits k (next {d} {l} h r) = rw (digit-is d h) (all_digits l r)

byte-back : (n : ℕ) → n ≤ 255 → byte_of (decimal n) ≡ Some n
unfolding number_of
byte-back n h =
    let w = width n 2 (omega arith) in
    rw (le-leb (length (decimal n)) 19 (omega arith), all_digits (decimal n) (only-digits n), says-itself n, le-leb n 255 h) refl

-- ---- a line that is printed is read

module _ (test : ℕ → Bool) (digits : (d : ℕ) → d < 10 → test (digit d) ≡ false) (bare : test blank ≡ false) where
  clear-line : (w : List ℕ) (n : ℕ) → clear test w ≡ true → clear test (w ++ spaced (n ∷ [])) ≡ true
  unfolding spaced all
  clear-line w n h = clear_both test w ((blank ∷ []) ++ decimal n ++ []) h (rw (bare, append-nil (decimal n)) (clear-number test digits n))

no-blank : (d : ℕ) → d < 10 → is_blank (digit d) ≡ false
no-blank d h = rw (ne_eqb (48 + d) 32 (λ e. omega arith), ne_eqb (48 + d) 9 (λ e. omega arith), ne_eqb (48 + d) 13 (λ e. omega arith)) refl

no-hash : (d : ℕ) → d < 10 → is_hash (digit d) ≡ false
no-hash d h = ne_eqb (48 + d) 35 (λ e. omega arith)

no-newline : (d : ℕ) → d < 10 → is_newline (digit d) ≡ false
no-newline d h = ne_eqb (48 + d) 10 (λ e. omega arith)

full-two : (b : ℕ) (w v : List ℕ) → 1 ≤ length v → full ((b ∷ w) ∷ v ∷ []) ≡ (b ∷ w) ∷ v ∷ []
full-two b w [] h = absurd (omega arith)
full-two b w (c ∷ v) h = refl

-- A word without blanks and "#", and a number behind it.
module _ (b : ℕ) (w : List ℕ) (n : ℕ) (blanks : clear is_blank (b ∷ w) ≡ true) (hashes : clear is_hash (b ∷ w) ≡ true) where
  two-words : words ((b ∷ w) ++ spaced (n ∷ [])) ≡ (b ∷ w) ∷ decimal n ∷ []
  unfolding spaced
  two-words =
      ap full (piece_then is_blank (b ∷ w) blank (decimal n ++ []) blanks refl
      ∙ ap (λ (l : List ℕ). (b ∷ w) ∷ pieces is_blank l) (append-nil (decimal n))
      ∙ ap (λ (ps : List (List ℕ)). (b ∷ w) ∷ ps) (piece-last is_blank (decimal n) (clear-number is_blank no-blank n)))
      ∙ full-two b w (decimal n) (some-digit n)

  pub line-said : line_of ((b ∷ w) ++ spaced (n ∷ [])) ≡ said (b ∷ w) (byte_of (decimal n))
  unfolding line_of
  line-said =
      ap (λ (ps : List (List ℕ)). of_words (words (get_or ps 0 []))) (piece-last is_hash ((b ∷ w) ++ spaced (n ∷ [])) (clear-line is_hash no-hash refl (b ∷ w) n hashes))
      ∙ ap of_words two-words

-- ---- the names

-- A kind is named by a word without blanks, "#" and newlines, which is not "nodes" and says the kind.
says : Option ℕ → ℕ → Bool
says (Some j) k = eqb j k
says None k = false

named : ℕ → Bool
named k = clear is_blank (name_of k) && clear is_hash (name_of k) && clear is_newline (name_of k) && leb (length (name_of k)) 14 && leb 1 (length (name_of k))
    && not (same (name_of k) (bytes "nodes")) && says (kind_said (name_of k)) k

below : ℕ → (ℕ → Bool) → Bool
below zero test = true
below (suc n) test = test n && below n test

at-below : (n : ℕ) (test : ℕ → Bool) → below n test ≡ true → (k : ℕ) → k < n → test k ≡ true
unfolding below
at-below zero test e k h = absurd (omega arith)
at-below (suc n) test e k h = go (at-below n test (both_true (test n) (below n test) e) k) (ℕ_discrete k n)
  where
    go : (k < n → test k ≡ true) → Dec (k ≡ n) → test k ≡ true
    go f (yes i) = rw i (first-true (test n) (below n test) e)
    go f (no i) = f (omega arith)

all_named : below 14 (λ k. eqb k 0 || named k) ≡ true
unfolding below named says names number_of same kind_named all
all_named = refl

-- What is known of the name of a kind that exists.
record Named (k : ℕ) : Type 0 where
  blanks : clear is_blank (name_of k) ≡ true
  hashes : clear is_hash (name_of k) ≡ true
  newlines : clear is_newline (name_of k) ≡ true
  short : length (name_of k) ≤ 14
  some : 1 ≤ length (name_of k)
  other : same (name_of k) (bytes "nodes") ≡ false
  kind : kind_said (name_of k) ≡ Some k

says-it : (b : Option ℕ) (k : ℕ) → says b k ≡ true → b ≡ Some k
unfolding says
says-it (Some j) k e = ap Some (eqb-true j k e)
says-it None k e = absurd (true≢false (sym e))

with-name : (k : ℕ) → 1 ≤ k → k ≤ 13 → Named k
unfolding named
with-name k low high =
    let t : named k ≡ true = rw (ne_eqb k 0 (λ e. omega arith)) at (at-below 14 (λ k. eqb k 0 || named k) all_named k (omega arith)) in
    let w = name_of k in
    let p = clear is_blank w in
    let q = clear is_hash w in
    let r = clear is_newline w in
    let u = leb (length w) 14 in
    let v = leb 1 (length w) in
    let x = not (same w (bytes "nodes")) in
    let y = says (kind_said w) k in
    let a = first-true (p && q && r && u && v && x) y t in
    let b = first-true (p && q && r && u && v) x a in
    let c = first-true (p && q && r && u) v b in
    let d = first-true (p && q && r) u c in
    let e = first-true (p && q) r d in
    record {
      blanks = first-true p q e;
      hashes = both_true p q e;
      newlines = both_true (p && q) r d;
      short = leb-true (length w) 14 (both_true (p && q && r) u c);
      some = leb-true 1 (length w) (both_true (p && q && r && u) v b);
      other = not-true (same w (bytes "nodes")) (both_true (p && q && r && u && v) x a);
      kind = says-it (kind_said w) k (both_true (p && q && r && u && v && x) y t);
    }

-- ---- a step that exists

kind-within : (nodes : ℕ) (e : Event) → T (exists nodes e) → (1 ≤ e.kind) × (e.kind ≤ 13)
unfolding exists
kind-within nodes e t = go (ℕ_discrete e.kind 0) (dec_lt e.kind 14)
  where
    go : Dec (e.kind ≡ 0) → Dec (e.kind < 14) → (1 ≤ e.kind) × (e.kind ≤ 13)
    go (yes z) h = absurd (rw z at t)
    go (no z) (yes h) = (omega arith, omega arith)
    go (no z) (no h) = absurd (rw (get_or-eq_default kinds none {n = e.kind} (omega arith)) at t)

-- A word that is not empty, and a number behind it.
word-said : (v : List ℕ) (n : ℕ) → 1 ≤ length v → clear is_blank v ≡ true → clear is_hash v ≡ true → line_of (v ++ spaced (n ∷ [])) ≡ said v (byte_of (decimal n))
word-said [] n h p q = absurd (omega arith)
word-said (b ∷ w) n h p q = line-said b w n p q

-- The first line of a text that begins with it.
first-line : (v : List ℕ) (n : ℕ) (rest : List ℕ) → clear is_newline v ≡ true → W.lines (line v (n ∷ []) ++ rest) ≡ (v ++ spaced (n ∷ [])) ∷ W.lines rest
unfolding line
first-line v n rest h =
    ap W.lines (append_assoc (v ++ spaced (n ∷ [])) (newline ∷ []) rest)
    ∙ piece_then is_newline (v ++ spaced (n ∷ [])) newline rest (clear-line is_newline no-newline refl v n h) refl

is_name : (v : List ℕ) (k : ℕ) → 1 ≤ length v → or_number v k ≡ v
is_name [] k h = absurd (omega arith)
is_name (b ∷ v) k h = refl

module _ (nodes : ℕ) (e : Event) (there : T (exists nodes e)) where
  name : Named e.kind
  name = let k = kind-within nodes e there in with-name e.kind k.0 k.1

  step-first : (rest : List ℕ) → W.lines (step_line e ++ rest) ≡ (name_of e.kind ++ spaced (e.node ∷ [])) ∷ W.lines rest
  step-first rest =
      ap (λ (v : List ℕ). W.lines (line v (e.node ∷ []) ++ rest)) (is_name (name_of e.kind) e.kind name.some)
      ∙ first-line (name_of e.kind) e.node rest name.newlines

  step-said : e.node ≤ 255 → line_of (name_of e.kind ++ spaced (e.node ∷ [])) ≡ Step e.kind e.node
  step-said h =
      word-said (name_of e.kind) e.node name.some name.blanks name.hashes
      ∙ rw (byte-back e.node h, name.other, name.kind) refl

  step-short : e.node ≤ 255 → length (step_line e) ≤ 36
  step-short h =
      let w = line-width (name_of e.kind) (e.node ∷ []) small-node in
      let s = name.short in
      let i = ap (λ (v : List ℕ). length (line v (e.node ∷ []))) (is_name (name_of e.kind) e.kind name.some) in
      omega arith
    where
      small-node : (i : ℕ) → get_or (e.node ∷ []) i 0 < 18446744073709551616
      small-node zero = omega arith
      small-node (suc i) = omega arith

-- ---- all steps

unfoldable steps_text : List Event → List ℕ
steps_text [] = []
steps_text (e ∷ es) = step_line e ++ steps_text es

steps-lines : (n : ℕ) (f : ℕ → Event) → lines (λ i. step_line (f i)) n ≡ steps_text (table n f)
unfolding lines steps_text
steps-lines zero f = refl
steps-lines (suc n) f = lines-first (λ i. step_line (f i)) n ∙ ap (λ (l : List ℕ). step_line (f 0) ++ l) (steps-lines n (λ i. f (suc i)))

abbrev read_as : ℕ → List Event → Reading
read_as nodes es = record { line = 0; code = 0; nodes = nodes; steps = es }

steps-read : (m : ℕ) (es : List Event) → All (λ e. T (exists (suc m) e)) es → All Small es → (k : ℕ) → read_from (suc m) k (W.lines (steps_text es)) ≡ read_as (suc m) es
unfolding steps_text read_from line_of pieces
steps-read m [] there small k = refl
steps-read m (e ∷ es) there small k =
    let n = small.0.1 in
    rw (step-first (suc m) e there.0 (steps_text es), step-said (suc m) e there.0 (omega arith), exists-good (suc m) e there.0, steps-read m es there.1 small.1 (suc k)) refl

steps-short : (nodes : ℕ) (es : List Event) → All (λ e. T (exists nodes e)) es → All Small es → length (steps_text es) ≤ 36 * length es
unfolding steps_text
steps-short nodes [] there small = omega arith
steps-short nodes (e ∷ es) there small =
    let n = small.0.1 in
    let a = step-short nodes e there.0 (omega arith) in
    let b = steps-short nodes es there.1 small.1 in
    let c = length-append (step_line e) (steps_text es) in
    omega arith

-- ---- the whole text

-- A comment says nothing.
notes-said : (n m k : ℕ) (es : List Event) → All (λ e. T (exists (suc m) e)) es → All Small es → read_from (suc m) k (W.lines (notes_line n ++ steps_text es)) ≡ read_as (suc m) es
unfolding read_from line_of pieces all
notes-said zero m k es there small = steps-read m es there small k
notes-said (suc n) m k es there small = rw (first-line (bytes "# note bytes left out:") (suc n) (steps_text es) refl, steps-read m es there small (suc k)) refl

text-read : (nodes n : ℕ) (es : List Event) → Within 1 most_nodes nodes → All (λ e. T (exists nodes e)) es → All Small es
    → read_text (line (bytes "nodes") (nodes ∷ []) ++ notes_line n ++ steps_text es) ≡ read_as nodes es
unfolding read_text read_from same all
text-read zero n es w there small = absurd (omega arith)
text-read (suc m) n es w there small =
    rw (
      append_assoc (line (bytes "nodes") (suc m ∷ [])) (notes_line n) (steps_text es),
      first-line (bytes "nodes") (suc m) (notes_line n ++ steps_text es) refl,
      word-said (bytes "nodes") (suc m) (omega arith) refl refl,
      byte-back (suc m) (let u = w.upper in omega arith),
      (is-yes (within 1 most_nodes (suc m))).to ((is_within 1 most_nodes (suc m)).from w),
      notes-said n m 2 es there small,
    ) refl

notes-short : (n : ℕ) → n < 4294967296 → length (notes_line n) ≤ 44
notes-short zero h = omega arith
notes-short (suc n) h = line-width (bytes "# note bytes left out:") (suc n ∷ []) few
  where
    few : (i : ℕ) → get_or (suc n ∷ []) i 0 < 18446744073709551616
    few zero = omega arith
    few (suc i) = omega arith

small-table : (n : ℕ) (f : ℕ → Event) → ((i : ℕ) → Small (f i)) → All Small (table n f)
small-table zero f h = tt
small-table (suc n) f h = (h 0, small-table n (λ i. f (suc i)) (λ i. h (suc i)))

module _ (list : List ℕ) (ok : refusal list ≡ 0) (small : (i : ℕ) → byte_at list i < 256) (all : All (λ e. T (exists (node_count list) e)) (records list)) where
  small-records : All Small (records list)
  small-records = small-table (record_count list) (record_at list) (λ i. (small (first_record list + 2 * i), small (first_record list + 2 * i + 1)))

  text-is : list_text list ≡ line (bytes "nodes") (node_count list ∷ []) ++ notes_line (first_record list) ++ steps_text (records list)
  unfolding list_text
  text-is = ap (λ (l : List ℕ). line (bytes "nodes") (node_count list ∷ []) ++ notes_line (first_record list) ++ l) (steps-lines (record_count list) (record_at list))

  text-short : length (list_text list) ≤ longest_text
  text-short =
      let g = good list ok in
      let s = g.sum in
      let u = g.size.upper in
      let v = g.nodes.upper in
      let c = records-length list in
      let h = line-width (bytes "nodes") (node_count list ∷ []) few in
      let n = notes-short (first_record list) (omega arith) in
      let e = steps-short (node_count list) (records list) all small-records in
      rw text-is (rw (length-append, length-append) (omega arith))
    where
      few : (i : ℕ) → get_or (node_count list ∷ []) i 0 < 18446744073709551616
      few zero = let v = (good list ok).nodes.upper in omega arith
      few (suc i) = omega arith

  -- What is printed for a list is read as its steps, and written as the list of them.
  pub rewritten : output (out_of (shown list)) ≡ printing (list_of (node_count list) (records list))
  unfolding shown output written
  rewritten =
      let g = good list ok in
      let s = g.sum in
      let u = g.size.upper in
      let c = records-length list in
      let r : read_text (list_text list) ≡ read_as (node_count list) (records list) = ap read_text text-is ∙ text-read (node_count list) (first_record list) (records list) g.nodes all small-records in
      rw (ok, le-leb (length (list_text list)) longest_text text-short, r, none-bad list ok all longest (omega arith)) refl

  -- Byte for byte, where there are no notes.
  pub given_back : first_record list ≡ 0 → output (out_of (shown list)) ≡ printing list
  given_back bare = rewritten ∙ ap printing (list_back list ok bare small)
