-- A log read line by line. Assumes nothing.
use Rattle.std.specs.Prelude.{◌≡◌, ◌≢◌, refl, Bool, true, false, cond, ◌&&◌, List, [], ◌∷◌, ◌++◌, map, Option, Some, None, Result, Ok, Err, ℕ, suc, ◌+◌, ◌≤◌, ◌<◌, eqb, leb, ltb, length, get_or, set, drop}
use Rattle.std.specs.Option.{is_some}
use Rattle.std.specs.List.{slice_split, enumerate_from}
use Rattle.std.proofs.lemmas.List.FromFn.{length-enumerate_from, get_or-enumerate_from}
use Rattle.std.proofs.Math.Path.{sym, ap, ap₂}
use Rattle.std.proofs.Common.{◌∙◌, true≢false, add-one, arith, drop-cons, drop_of_length-le, append_assoc, append-nil, length-append, lt-ltb, le-leb}
use Rattle.std.proofs.Math.Dec.{eqb-suc-zero}
use Rattle.std.proofs.lemmas.List.{length-map, map-append}
use Rattle.std.proofs.lemmas.List.Edits.{sets}
use Rattle.rules.specs.Range.{within}
use Rattle.any_words.specs.Text.{lines}
use Rattle.any_words.specs.Pieces.{split-pieces}
use Rattle.log_read.specs.declared.Line.{Line}
use Rattle.log_read.specs.declared.Line.TheVariants.{Blank, Two, Four, Other}
use Rattle.log_read.specs.declared.Record.{Record}
use Rattle.log_read.specs.declared.Head.{Head}
use Rattle.log_read.specs.declared.Log.{Log}
use Rattle.log_read.specs.declared.Refused.{Refused}
use Rattle.log_read.specs.Line.{line_of}
use Rattle.log_read.specs.Log.{most_records, Row, fits, row_on, Part, behind, after, part, FirstLine, Reading, bad_head, no_head, head_on, headed, read_lines, log_of, read_text, record_of}

-- ---- the lines

-- The line with number n, counted from 0, as a loop over the pieces comes to it.
pub record Turn (text : List ℕ) (k n : ℕ) (l : List ℕ) : Type 0 where
  pub more : k < length (lines text)
  pub number : n ≡ k
  pub line : l ≡ get_or (lines text) k l

pub turn : (text : List ℕ) {k n : ℕ} {l : List ℕ} → (k < length (enumerate_from 0 (slice_split (λ b. eqb b 10) text))) × ((n, l) ≡ get_or (enumerate_from 0 (slice_split (λ b. eqb b 10) text)) k (n, l)) → Turn text k n l
turn text {k} {n} {l} t =
    let ps = slice_split (λ b. eqb b 10) text in
    let more : k < length ps = (let z = length-enumerate_from 0 ps in let y = t.0 in omega arith) in
    let e : ◌≡◌ {A = ℕ × List ℕ} (n, l) (0 + k, get_or ps k l) = t.1 ∙ get_or-enumerate_from 0 ps k (n, l) more in
    record {
      more = rw (← split-pieces (λ b. eqb b 10) text) more;
      number = let z : n ≡ 0 + k = ap (λ (x : ℕ × List ℕ). x.0) e in omega arith;
      line = ap (λ (x : ℕ × List ℕ). x.1) e ∙ ap (λ (ls : List (List ℕ)). get_or ls k l) (split-pieces (λ b. eqb b 10) text);
    }

pub turns-end : (text : List ℕ) {k : ℕ} → k ≡ length (enumerate_from 0 (slice_split (λ b. eqb b 10) text)) → length (lines text) ≤ k
turns-end text {k} e =
    let z = length-enumerate_from 0 (slice_split (λ b. eqb b 10) text) in
    let y = ap length (split-pieces (λ b. eqb b 10) text) in
    omega arith

-- ---- what is left to read

-- What a log is of which the head and these records are read.
abbrev begun : Head → Part → Reading
begun h p = record { refused = p.refused; nodes = h.nodes; bound = h.bound; rows = p.rows }

abbrev from : Option Head → List Row → ℕ → ℕ → List (List ℕ) → Reading
from None done count i ls = read_lines (suc i) ls
from (Some h) done count i ls = begun h (behind done (part count (suc i) ls))

-- One line of them.
module _ (done : List Row) (count i : ℕ) (l : List ℕ) (ls : List (List ℕ)) where
  -- As a line says, with a head.
  after-line : Head → Line → Reading
  after-line h line = begun h (behind done (after (fits count line) (suc i) (row_on (suc i) line) (part (count + length (row_on (suc i) line)) (suc (suc i)) ls)))

  from-blank : (head : Option Head) → line_of l ≡ Blank → from head done count i (l ∷ ls) ≡ from head done count (suc i) ls
  unfolding part after-line
  from-blank None e = ap (λ (x : Line). cond (head_on x).empty (read_lines (suc (suc i)) ls) (headed (suc i) (head_on x) (part 0 (suc (suc i)) ls))) e
  from-blank (Some h) e =
      let same : count + 0 ≡ count = omega arith in
      ap (after-line h) e ∙ ap (λ (k : ℕ). begun h (behind done (part k (suc (suc i)) ls))) same

  from-head : {nodes bound : ℕ} → line_of l ≡ Two nodes bound → leb 1 nodes ≡ true → leb nodes 8 ≡ true
      → from None done count i (l ∷ ls) ≡ begun (record { nodes = nodes; bound = bound }) (part 0 (suc (suc i)) ls)
  unfolding within
  from-head {nodes} {bound} e a b =
      ap (λ (x : Line). cond (head_on x).empty (read_lines (suc (suc i)) ls) (headed (suc i) (head_on x) (part 0 (suc (suc i)) ls))) e ∙ rw (a, b)

  from-record : (h : Head) {log time kind node : ℕ} → line_of l ≡ Four log time kind node → count < most_records → kind ≤ 255 → node ≤ 255
      → from (Some h) done count i (l ∷ ls) ≡ from (Some h) (done ++ row_on (suc i) (Four log time kind node)) (count + 1) (suc i) ls
  unfolding part after-line
  from-record h {log} {time} {kind} {node} e a b c =
      ap (after-line h) e
      ∙ rw (lt-ltb count most_records a, le-leb kind 255 b, le-leb node 255 c)
      (ap (λ (rows : List Row). record { refused = (part (count + 1) (suc (suc i)) ls).refused; nodes = h.nodes; bound = h.bound; rows = rows })
      (sym (append_assoc done (row_on (suc i) (Four log time kind node)) (part (count + 1) (suc (suc i)) ls).rows)))

  -- Where the line is refused.
  stopped : Option Head → Reading
  stopped None = bad_head (suc i)
  stopped (Some h) = begun h (record { refused = suc i; rows = done ++ [] })

  from-stops : (head : Option Head) → (head ≡ None → head_on (line_of l) ≡ no_head false) → (head ≢ None → fits count (line_of l) ≡ false) → from head done count i (l ∷ ls) ≡ stopped head
  unfolding part stopped
  from-stops None f k = ap (λ (x : FirstLine). cond x.empty (read_lines (suc (suc i)) ls) (headed (suc i) x (part 0 (suc (suc i)) ls))) (f refl)
  from-stops (Some h) f k =
      ap (λ (b : Bool). begun h (behind done (after b (suc i) (row_on (suc i) (line_of l)) (part (count + length (row_on (suc i) (line_of l))) (suc (suc i)) ls))))
      (k (λ e. cc))

-- One more is put down behind the others.
sets-more : (vs l : List Record) (i : ℕ) (x : Record) → sets l i (vs ++ (x ∷ [])) ≡ set (sets l i vs) (i + length vs) x
sets-more [] l i x = let z : i + 0 ≡ i = omega arith in rw z
sets-more (v ∷ vs) l i x = let z : i + suc (length vs) ≡ suc i + length vs = omega arith in rw z (sets-more vs (set l i v) (suc i) x)

no-head : (o : Option Head) → is_some o ≡ false → o ≡ None
no-head None e = refl
no-head (Some h) e = absurd (true≢false e)

a-head : (o : Option Head) → is_some o ≡ true → o ≢ None
a-head None e = absurd (true≢false (sym e))
a-head (Some h) e = λ n. cc

-- i lines are read, and `count` records put down.
pub record Going (text : List ℕ) (before records : List Record) (head : Option Head) (count i : ℕ) : Type 0 where
  pub done : List Row
  pub few : count ≤ most_records
  pub counted : count ≡ length done
  pub put : records ≡ sets before 0 (map record_of done)
  pub none : head ≡ None → done ≡ []
  pub going : from head done count i (drop i (lines text)) ≡ read_text text

pub going-starts : (text : List ℕ) (before : List Record) → Going text before before None 0 0
unfolding read_text
going-starts text before = record { done = []; few = omega arith; counted = refl; put = refl; none = λ e. refl; going = refl }

-- The refusal of a line, behind what the first line says, if it was read, and that many records.
abbrev pub refused_at : ℕ → Option Head → ℕ → Refused
refused_at line None records = record { line = line; nodes = 0; bound = 0; records = records }
refused_at line (Some h) records = record { line = line; nodes = h.nodes; bound = h.bound; records = records }

-- What a reading of the text leaves.
pub record ReadAll (text : List ℕ) (before after : List Record) (r : Result Log Refused) : Type 0 where
  pub log : r ≡ log_of (read_text text)
  pub records : after ≡ sets before 0 (map record_of (read_text text).rows)

module _ {text : List ℕ} {before records : List Record} {head : Option Head} {count i : ℕ} (g : Going text before records head count i) where
  -- What the records are of, if the reading has them.
  all-read : {r : Result Log Refused} {t : Reading} → t ≡ read_text text → t.rows ≡ g.done → r ≡ log_of t → ReadAll text before records r
  all-read {r} {t} e f o = record {
    log = o ∙ ap log_of e;
    records = g.put ∙ ap (λ (rows : List Row). sets before 0 (map record_of rows)) (sym f ∙ ap (λ (x : Reading). x.rows) e);
  }

  over : length (lines text) ≤ i → from head g.done count i [] ≡ read_text text
  over h = ap (from head g.done count i) (sym (drop_of_length-le (lines text) {i = i} h)) ∙ g.going

  pub going-ends : {h : Head} → head ≡ Some h → length (lines text) ≤ i → ReadAll text before records (Ok (record { nodes = h.nodes; bound = h.bound; records = count }))
  unfolding part
  going-ends {h} e k =
      all-read (ap (λ (o : Option Head). from o g.done count i []) (sym e) ∙ over k) (append-nil g.done)
      (ap (λ (n : ℕ). Ok (record { nodes = h.nodes; bound = h.bound; records = n })) (g.counted ∙ ap length (sym (append-nil g.done))))

  pub going-empty : head ≡ None → length (lines text) ≤ i → ReadAll text before records (Err (refused_at 1 None 0))
  going-empty e k = all-read (ap (λ (o : Option Head). from o g.done count i []) (sym e) ∙ over k) (sym (g.none e)) refl

  module _ {n : ℕ} {l : List ℕ} (t : Turn text i n l) where
    ls : List (List ℕ)
    ls = drop (suc i) (lines text)

    here : from head g.done count i (l ∷ ls) ≡ read_text text
    unfolding ls
    here = ap (λ (m : List ℕ). from head g.done count i (m ∷ drop (suc i) (lines text))) t.line ∙ ap (from head g.done count i) (sym (drop-cons (lines text) i l t.more)) ∙ g.going

    pub going-blank : {m : ℕ} → m ≡ i + 1 → line_of l ≡ Blank → Going text before records head count m
    unfolding ls
    going-blank q e = rw q (record {
      done = g.done;
      few = g.few;
      counted = g.counted;
      put = g.put;
      none = g.none;
      going = rw (add-one i) (sym (from-blank g.done count i l ls head e) ∙ here);
    })

    pub going-head : {m : ℕ} → m ≡ i + 1 → {nodes bound : ℕ} → line_of l ≡ Two nodes bound → is_some head ≡ false → 1 ≤ nodes → nodes ≤ 8 → Going text before records (Some (record { nodes = nodes; bound = bound })) count m
    unfolding ls
    going-head q {nodes} {bound} e o a b =
        let f = no-head head o in
        let zero : count ≡ 0 = g.counted ∙ ap length (g.none f) in
        rw q (record {
          done = [];
          few = g.few;
          counted = zero;
          put = g.put ∙ ap (λ (rows : List Row). sets before 0 (map record_of rows)) (g.none f);
          none = λ n. refl;
          going = rw (add-one i, zero) (sym (from-head g.done count i l ls e (le-leb 1 nodes a) (le-leb nodes 8 b)) ∙ ap (λ (o : Option Head). from o g.done count i (l ∷ ls)) (sym f) ∙ here);
        })

    with-record : {m : ℕ} → m ≡ i + 1 → {log time kind node : ℕ} → line_of l ≡ Four log time kind node → {h : Head} → head ≡ Some h → count < most_records → kind ≤ 255 → node ≤ 255
        → Going text before (set records count (record { line = n + 1; log = log; time = time; kind = kind; node = node })) head (count + 1) m
    unfolding ls
    with-record q {log} {time} {kind} {node} e {h} f a b c = rw (q, t.number) (record {
      done = g.done ++ row_on (suc i) (Four log time kind node);
      few = omega arith;
      counted = let z = g.counted in let y = length-append g.done (row_on (suc i) (Four log time kind node)) in omega arith;
      put =
          let at : count ≡ 0 + length (map record_of g.done) = (let z = g.counted in let y = length-map g.done record_of in omega arith) in
          rw (map-append record_of g.done (row_on (suc i) (Four log time kind node)), sets-more (map record_of g.done) before 0 (record_of (record { line = suc i; logged = record { log = log; time = time; event = record { kind = kind; node = node } } })), g.put, at, add-one i);
      none = λ n. cc;
      going = rw (add-one i, f) (sym (from-record g.done count i l ls h e a b c) ∙ ap (λ (o : Option Head). from o g.done count i (l ∷ ls)) (sym f) ∙ here);
    })

    pub going-record : {m : ℕ} → m ≡ i + 1 → {log time kind node : ℕ} → line_of l ≡ Four log time kind node → is_some head ≡ true → count < most_records → kind ≤ 255 → node ≤ 255
        → Going text before (set records count (record { line = n + 1; log = log; time = time; kind = kind; node = node })) head (count + 1) m
    going-record {m} q {log} {time} {kind} {node} e o a b c = go head refl
      where
        go : (h : Option Head) → head ≡ h → Going text before (set records count (record { line = n + 1; log = log; time = time; kind = kind; node = node })) head (count + 1) m
        go None f = absurd (a-head head o f)
        go (Some h) f = with-record q e f a b c

    -- The line is refused.
    pub going-stops : (head ≡ None → head_on (line_of l) ≡ no_head false) → (head ≢ None → fits count (line_of l) ≡ false) → ReadAll text before records (Err (refused_at (n + 1) head count))
    unfolding ls stopped
    going-stops f k = go head refl
      where
        go : (o : Option Head) → head ≡ o → ReadAll text before records (Err (refused_at (n + 1) head count))
        go None e =
            let zero : count ≡ 0 = g.counted ∙ ap length (g.none e) in
            all-read (sym (ap (stopped g.done count i l ls) e) ∙ sym (from-stops g.done count i l ls head f k) ∙ here) (sym (g.none e))
            (ap₂ (λ (o : Option Head) (m : ℕ). Err (refused_at (n + 1) o m)) e zero ∙ rw (t.number, add-one i, eqb-suc-zero i))
        go (Some h) e =
            all-read (sym (ap (stopped g.done count i l ls) e) ∙ sym (from-stops g.done count i l ls head f k) ∙ here) (append-nil g.done)
            (ap₂ (λ (o : Option Head) (m : ℕ). Err (refused_at (n + 1) o m)) e (g.counted ∙ ap length (sym (append-nil g.done))) ∙ rw (t.number, add-one i, eqb-suc-zero i))

    pub stops-two : {a b : ℕ} → line_of l ≡ Two a b → is_some head ≡ true → ReadAll text before records (Err (refused_at (n + 1) head count))
    stops-two e o = going-stops (λ z. absurd (a-head head o z)) (λ z. ap (fits count) e)

    pub stops-nodes : {a b : ℕ} → line_of l ≡ Two a b → leb 1 a && leb a 8 ≡ false → ReadAll text before records (Err (refused_at (n + 1) head count))
    unfolding within
    stops-nodes e f = going-stops (λ z. ap head_on e ∙ rw f) (λ z. ap (fits count) e)

    pub stops-four : {a b c d : ℕ} → line_of l ≡ Four a b c d → is_some head ≡ false → ReadAll text before records (Err (refused_at (n + 1) head count))
    stops-four e o = going-stops (λ z. ap head_on e) (λ z. absurd (z (no-head head o)))

    pub stops-record : {a b c d : ℕ} → line_of l ≡ Four a b c d → ltb count most_records && leb c 255 && leb d 255 ≡ false → ReadAll text before records (Err (refused_at (n + 1) head count))
    stops-record e f = going-stops (λ z. ap head_on e) (λ z. ap (fits count) e ∙ f)

    pub stops-other : line_of l ≡ Other → ReadAll text before records (Err (refused_at (n + 1) head count))
    stops-other e = going-stops (λ z. ap head_on e) (λ z. ap (fits count) e)

-- A test that one part fails.
pub first-fails : (a b : Bool) → a ≡ false → a && b ≡ false
first-fails a b e = rw e

pub second-fails : (a b : Bool) → b ≡ false → a && b ≡ false
second-fails true b e = e
second-fails false b e = refl
