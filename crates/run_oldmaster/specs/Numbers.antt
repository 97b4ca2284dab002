-- The numbers that a printed text shows, one after another; and so that no text shows two lists of writes. Assumes nothing.
use Rattle.std.specs.Prelude.{◌≡◌, refl, cond, ◌&&◌, List, [], ◌∷◌, ◌++◌, ℕ, zero, suc, ◌+◌, ◌*◌, ◌-◌, ◌<◌, length, get_or, drop, leb}
use Rattle.std.proofs.Common.{sym, ap, ap₂, ◌∙◌, append-nil, append_assoc, arith, length-append, drop_at, le-leb}
use Rattle.std.proofs.Math.Seq.{append_snoc}
use Rattle.std.proofs.lemmas.Bool.{lt-leb}
use Rattle.rules.specs.State.{Write}
use Rattle.run_lists.specs.EventList.{record_count, record_at}
use Rattle.any_text.specs.Decimal.{digit, decimal, said_after}
use Rattle.any_text.specs.Lines.{blank, newline, number, record_line, writes_line, write_line}
use Rattle.any_text.specs.Digits.{Digits, end, next, only-digits, says-itself}
use Rattle.run_lists.specs.Entries.{no_write}
use Rattle.any_text.specs.Line.{lines}
use Rattle.any_text.specs.Lined.{lines-first}
use Rattle.run_lines.specs.RunText.{run_text}

-- A byte that is no digit ends a number; `so_far` is what the digits before have said.
unfoldable numbers : ℕ → List ℕ → List ℕ
numbers so_far [] = []
numbers so_far (b ∷ l) = cond (leb (digit 0) b && leb b (digit 9)) (numbers (10 * so_far + (b - digit 0)) l) (so_far ∷ numbers 0 l)

digits-read : (so_far : ℕ) (l rest : List ℕ) → Digits l → numbers so_far (l ++ rest) ≡ numbers (said_after so_far l) rest
unfolding numbers
digits-read so_far l rest end = refl
digits-read so_far l rest (next {d} {l = k} h r) = rw (le-leb (digit 0) (digit d) (omega arith), le-leb (digit d) (digit 9) (omega arith)) (digits-read (10 * so_far + (digit d - digit 0)) k rest r)

-- A text shows these numbers, whatever stands behind it.
record Shows (text shown : List ℕ) : Type 0 where
  says : (rest : List ℕ) → numbers 0 (text ++ rest) ≡ shown ++ numbers 0 rest

infixl 40 ◌then◌
◌then◌ : {a b m n : List ℕ} → Shows a m → Shows b n → Shows (a ++ b) (m ++ n)
◌then◌ {a} {b} {m} {n} h k = record { says = λ rest. rw (append_assoc a b rest, h.says (b ++ rest), k.says rest, append_assoc m n (numbers 0 rest)) }

shows-number : (n : ℕ) {ending : ℕ} → ending < digit 0 → Shows (number n ending) (n ∷ [])
unfolding numbers
shows-number n {ending} h = record {
  says = λ rest. ap (numbers 0) (append_snoc (decimal n) ending rest) ∙ digits-read 0 (decimal n) (ending ∷ rest) (only-digits n)
      ∙ rw (lt-leb (digit 0) ending h) (ap (λ (m : ℕ). m ∷ numbers 0 rest) (says-itself n));
}

shows-lines : {f g : ℕ → List ℕ} → ((i : ℕ) → Shows (f i) (g i)) → (n : ℕ) → Shows (lines f n) (lines g n)
unfolding lines
shows-lines h zero = record { says = λ rest. refl }
shows-lines h (suc n) = shows-lines h n then h n

shows-record : (place kind node answer : ℕ) → Shows (record_line place kind node answer) (place ∷ kind ∷ node ∷ answer ∷ [])
unfolding record_line
shows-record place kind node answer = shows-number place (omega arith) then shows-number kind (omega arith) then shows-number node (omega arith) then shows-number answer (omega arith)

shows-write : (node term : ℕ) → Shows (write_line node term) (node ∷ term ∷ [])
unfolding write_line
shows-write node term = shows-number node (omega arith) then shows-number term (omega arith)

-- The bytes of the word and the blank behind it end a number each.
shows-word : Shows (119 ∷ 114 ∷ 105 ∷ 116 ∷ 101 ∷ 115 ∷ blank ∷ []) (0 ∷ 0 ∷ 0 ∷ 0 ∷ 0 ∷ 0 ∷ 0 ∷ [])
unfolding numbers
shows-word = record { says = λ rest. refl }

shows-writes : (n : ℕ) → Shows (writes_line n) (0 ∷ 0 ∷ 0 ∷ 0 ∷ 0 ∷ 0 ∷ 0 ∷ n ∷ [])
unfolding writes_line
shows-writes n = shows-word then shows-number n {ending = newline} (omega arith)

-- ---- the writes that a text shows

flat : List Write → List ℕ
flat [] = []
flat (w ∷ ws) = w.node ∷ w.term ∷ flat ws

flat-same : (ws vs : List Write) → flat ws ≡ flat vs → ws ≡ vs
unfolding flat
flat-same [] [] e = refl
flat-same [] (v ∷ vs) e = let z : ◌≡◌ {A = ℕ} 0 1 = cc in absurd (omega arith)
flat-same (w ∷ ws) [] e = let z : ◌≡◌ {A = ℕ} 0 1 = cc in absurd (omega arith)
flat-same (w ∷ ws) (v ∷ vs) e =
    let write : ℕ → ℕ → Write = λ n t. record { node = n; term = t } in
    ap₂ (λ (x : Write) (xs : List Write). x ∷ xs) (ap₂ write (cc) (cc)) (flat-same ws vs (cc))

-- Of the lines of the writes.
flat-lines : (ws : List Write) → lines (λ i. (get_or ws i no_write).node ∷ (get_or ws i no_write).term ∷ []) (length ws) ≡ flat ws
unfolding lines flat
flat-lines [] = refl
flat-lines (w ∷ ws) = lines-first (λ i. (get_or (w ∷ ws) i no_write).node ∷ (get_or (w ∷ ws) i no_write).term ∷ []) (length ws) ∙ ap (λ (l : List ℕ). w.node ∷ w.term ∷ l) (flat-lines ws)

-- Four numbers for each record, and eight in the line between.
record_shown : List ℕ → List ℕ → ℕ → List ℕ
record_shown list answers i = (i + 1) ∷ (record_at list i).kind ∷ (record_at list i).node ∷ get_or answers i 0 ∷ []

before : List ℕ → List ℕ → ℕ → List ℕ
before list answers writes = lines (record_shown list answers) (record_count list) ++ (0 ∷ 0 ∷ 0 ∷ 0 ∷ 0 ∷ 0 ∷ 0 ∷ writes ∷ [])

before-length : (list answers : List ℕ) (writes : ℕ) → length (before list answers writes) ≡ 4 * record_count list + 8
unfolding before record_shown lines
before-length list answers writes = length-append (lines (record_shown list answers) (record_count list)) _ ∙ ap (λ (n : ℕ). n + 8) (fours (record_count list))
  where
    fours : (n : ℕ) → length (lines (record_shown list answers) n) ≡ 4 * n
    fours zero = refl
    fours (suc n) = let k = fours n in length-append (lines (record_shown list answers) n) (record_shown list answers n) ∙ omega arith

text-shows : (list answers : List ℕ) (ws : List Write) → Shows (run_text list answers ws) (before list answers (length ws) ++ flat ws)
unfolding run_text before record_shown
text-shows list answers ws = rw (← flat-lines ws) (
    shows-lines (λ i. shows-record (i + 1) (record_at list i).kind (record_at list i).node (get_or answers i 0)) (record_count list)
    then shows-writes (length ws)
    then shows-lines (λ i. shows-write (get_or ws i no_write).node (get_or ws i no_write).term) (length ws)
    )

shown-writes : (list answers : List ℕ) (ws : List Write) → drop (4 * record_count list + 8) (numbers 0 (run_text list answers ws ++ [])) ≡ flat ws
unfolding numbers
shown-writes list answers ws =
    ap (drop (4 * record_count list + 8)) ((text-shows list answers ws).says [] ∙ append-nil (before list answers (length ws) ++ flat ws))
    ∙ drop_at (before list answers (length ws)) (flat ws) (4 * record_count list + 8) (before-length list answers (length ws))

-- Texts that are the same show the same writes.
pub same_writes : (list answers answers' : List ℕ) (ws vs : List Write) → run_text list answers ws ≡ run_text list answers' vs → ws ≡ vs
same_writes list answers answers' ws vs e =
    flat-same ws vs (sym (shown-writes list answers ws) ∙ ap (λ (l : List ℕ). drop (4 * record_count list + 8) (numbers 0 (l ++ []))) e ∙ shown-writes list answers' vs)
