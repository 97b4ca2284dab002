-- A text read line by line. Assumes nothing.
use Rattle.std.specs.Prelude.{◌≡◌, Bool, true, false, cond, ℕ, zero, suc, ◌+◌, ◌%◌, ◌≤◌, ◌<◌, eqb, length, get_or, drop, Result, Ok, Err}
use Rattle.std.proofs.Math.Path.{refl, ap}
use Rattle.std.proofs.Common.{sym, ◌∙◌, add-one, drop-cons, drop_of_length-le}
use Rattle.std.specs.List.{slice_split, onto_first, enumerate_from}
use Rattle.std.proofs.lemmas.List.FromFn.{length-enumerate_from, get_or-enumerate_from}
use mathlib.Core.List.{List, [], ◌∷◌, ◌++◌, append_assoc, append-nil}
use native.Mathlib.Omega.{arith}
use Rattle.std.proofs.Math.ListN.{set}
use Rattle.rules.specs.Limits.{most_nodes}
use Rattle.rules.specs.Codes.{bad_node_count}
use Rattle.rules.specs.Range.{within}
use Rattle.rules.specs.Step.{Event}
use Rattle.rules_laws.specs.All.{All}
use Rattle.rules_laws.specs.Lists.{all_append}
use Rattle.any_text.specs.Put.{Put}
use Rattle.any_text.specs.Puts.{put-none, put-length, put_then}
use Rattle.any_words.specs.Text.{is_newline, cut, pieces, lines}
use Rattle.run_lists.specs.Listed.{flat}
use Rattle.run_lists.specs.Made.{Small, flat-both}
use Rattle.list_write.specs.Write.{fault_of}
use Rattle.list_words.specs.declared.Line.{Line}
use Rattle.list_words.specs.declared.Line.TheVariants.{Blank, Nodes, Step, Other}
use Rattle.list_words.specs.Line.{line_of}
use Rattle.list_source.specs.declared.Taken.{Taken}
use Rattle.list_source.specs.declared.Fault.{Fault}
use Rattle.list_source.specs.declared.Fault.TheVariants.{Unread, Coded}
use Rattle.list_source.specs.declared.RefusedLine.{RefusedLine}
use Rattle.step_parts.specs.declared.Refusal.{Refusal}
use Rattle.step_parts.specs.declared.Refusal.TheVariants.{BadNodeCount}
use Rattle.step_parts.specs.Answers.{refusal_code}
use Rattle.step_parts.specs.Refusals.{code-some}
use Rattle.list_source.specs.Source.{Take, takes, stops, unread, judged, step_of, comes_to, Reading, behind, after, ended, read_from, read_text}

-- ---- one line

-- Why a line is refused, as a number.
abbrev pub code_of : Fault → ℕ
code_of Unread = unread
code_of (Coded refusal) = refusal_code refusal

-- What the code's result and the buffer say of a line.
abbrev Tells : Take → ℕ → List ℕ → List ℕ → Result Taken Fault → Type 0
Tells (takes nodes es) at before after (Ok t) = (t.nodes ≡ nodes) × Put before at (flat es) after t.steps × All Small es
Tells (takes nodes es) at before after (Err f) = ⊥
Tells (stops code) at before after (Ok t) = ⊥
Tells (stops code) at before after (Err f) = (code_of f ≡ code) × (after ≡ before)

pub record Took (x : Take) (at : ℕ) (before after : List ℕ) (r : Result Taken Fault) : Type 0 where
  pub tells : Tells x at before after r

pub took-none : (nodes at : ℕ) (l : List ℕ) → Took (takes nodes []) at l l (Ok (record { nodes = nodes; steps = at }))
unfolding flat
took-none nodes at l = record { tells = (refl, put-none l at, tt) }

pub took-unread : (at : ℕ) (l : List ℕ) → Took (stops unread) at l l (Err Unread)
took-unread at l = record { tells = (refl, refl) }

took-refused : (r : Refusal) (code at : ℕ) (l : List ℕ) → refusal_code r ≡ code → Took (stops code) at l l (Err (Coded r))
took-refused r code at l e = record { tells = (e, refl) }

module _ (nodes count at : ℕ) where
  abbrev OnNodes : Result Taken Fault → Type 0
  OnNodes r = (l : List ℕ) → Took (comes_to nodes (Nodes count)) at l l r

  pub second-nodes : 0 < nodes → OnNodes (Err Unread)
  second-nodes h l = go nodes h
    where
      go : (m : ℕ) → 0 < m → Took (comes_to m (Nodes count)) at l l (Err Unread)
      go zero h = absurd (omega arith)
      go (suc m) h = took-unread at l

  module _ (first : nodes ≡ 0) {b : Bool} (is : b ≡ within 1 most_nodes count) where
    pub few-nodes : b ≡ true → OnNodes (Ok (record { nodes = count; steps = at }))
    few-nodes e l = rw (first, ← is, e) (took-none count at l)

    pub bad-nodes : b ≡ false → OnNodes (Err (Coded BadNodeCount))
    bad-nodes e l = rw (first, ← is, e) (took-refused BadNodeCount bad_node_count at l refl)

module _ (nodes kind node at : ℕ) (l : List ℕ) where
  pub early-step : nodes ≡ 0 → Took (comes_to nodes (Step kind node)) at l l (Err Unread)
  early-step e = rw e (took-unread at l)

  module _ (some : 0 < nodes) {code : ℕ} (is : code ≡ fault_of nodes (step_of kind node)) where
    is-judged : comes_to nodes (Step kind node) ≡ judged code nodes (step_of kind node)
    is-judged = go nodes some is
      where
        go : (m : ℕ) → 0 < m → code ≡ fault_of m (step_of kind node) → comes_to m (Step kind node) ≡ judged code m (step_of kind node)
        go zero h e = absurd (omega arith)
        go (suc m) h e = ap (λ (c : ℕ). judged c (suc m) (step_of kind node)) (sym e)

    pub bad-step : (r : Refusal) → refusal_code r ≡ code → Took (comes_to nodes (Step kind node)) at l l (Err (Coded r))
    bad-step r e = rw is-judged (go code e)
      where
        go : (c : ℕ) → refusal_code r ≡ c → Took (judged c nodes (step_of kind node)) at l l (Err (Coded r))
        go zero e = absurd (code-some r e)
        go (suc c) e = took-refused r (suc c) at l e

    pub good-step : code ≡ 0 → kind < 256 → node < 256 → Took (comes_to nodes (Step kind node)) at l (set (set l at kind) (at + 1) node) (Ok (record { nodes = nodes; steps = at + 2 }))
    unfolding flat
    good-step e h k = rw (is-judged, e) (record {
      tells = (
        refl,
        (let a : kind % 256 ≡ kind = omega arith in
            let b : node % 256 ≡ node = omega arith in
            rw (a, b) (record { content = ap (λ (i : ℕ). set (set l at kind) i node) (add-one at); place = omega arith })),
        ((h, k), tt),
      );
    })

-- ---- the lines, as a loop over them comes to each

cut-split : (c : Bool) (b : ℕ) (ps : List (List ℕ)) → cut c b ps ≡ cond c ([] ∷ ps) (onto_first b ps)
cut-split true b ps = refl
cut-split false b [] = refl
cut-split false b (p ∷ ps) = refl

-- The pieces of a list, as the library splits it.
split-pieces : (test : ℕ → Bool) (l : List ℕ) → slice_split test l ≡ pieces test l
unfolding pieces
split-pieces test [] = refl
split-pieces test (b ∷ l) = ap (λ (ps : List (List ℕ)). cond (test b) ([] ∷ ps) (onto_first b ps)) (split-pieces test l) ∙ sym (cut-split (test b) b (pieces test l))

-- The line with number n, counted from 0.
pub record Turn (text : List ℕ) (k n : ℕ) (l : List ℕ) : Type 0 where
  pub more : k < length (lines text)
  pub number : n ≡ k
  pub line : l ≡ get_or (lines text) k l

pub turn : (text : List ℕ) {k n : ℕ} {l : List ℕ} → (k < length (enumerate_from 0 (slice_split (λ b. eqb b 10) text))) × ((n, l) ≡ get_or (enumerate_from 0 (slice_split (λ b. eqb b 10) text)) k (n, l)) → Turn text k n l
turn text {k} {n} {l} t =
    let ps = slice_split (λ b. eqb b 10) text in
    let more : k < length ps = (let z = length-enumerate_from 0 ps in let y = t.0 in omega arith) in
    let e : (n, l) ≡ (0 + k, get_or ps k l) = t.1 ∙ get_or-enumerate_from 0 ps k (n, l) more in
    record {
      more = rw (← split-pieces (λ b. eqb b 10) text) more;
      number = let z : n ≡ 0 + k = ap (λ (x : ℕ × List ℕ). x.0) e in omega arith;
      line = ap (λ (x : ℕ × List ℕ). x.1) e ∙ ap (λ (ls : List (List ℕ)). get_or ls k l) (split-pieces (λ b. eqb b 10) text);
    }

pub turns-end : (text : List ℕ) {k : ℕ} → k ≡ length (enumerate_from 0 (slice_split (λ b. eqb b 10) text)) → length (lines text) ≤ k
turns-end text {k} e =
    let z = length-enumerate_from 0 (slice_split (λ b. eqb b 10) text) in
    let y = ap length (split-pieces (λ b. eqb b 10) text) in
    omega arith

-- How many bytes pieces have, each with one behind it.
abbrev width : List (List ℕ) → ℕ
width [] = 0
width (l ∷ ls) = suc (length l) + width ls

pieces-some : (test : ℕ → Bool) (l : List ℕ) → 0 < length (pieces test l)
unfolding pieces
pieces-some test [] = omega arith
pieces-some test (b ∷ l) = go (test b) (pieces test l)
  where
    go : (c : Bool) (ps : List (List ℕ)) → 0 < length (cut c b ps)
    go true ps = omega arith
    go false [] = omega arith
    go false (p ∷ ps) = omega arith

width-pieces : (test : ℕ → Bool) (l : List ℕ) → width (pieces test l) ≡ length l + 1
unfolding pieces
width-pieces test [] = refl
width-pieces test (b ∷ l) = let w = width-pieces test l in let z = go (test b) (pieces test l) (pieces-some test l) in omega arith
  where
    go : (c : Bool) (ps : List (List ℕ)) → 0 < length ps → width (cut c b ps) ≡ suc (width ps)
    go true ps h = omega arith
    go false [] h = absurd (omega arith)
    go false (p ∷ ps) h = omega arith

width-lines : (text : List ℕ) → width (lines text) ≡ length text + 1
width-lines text = width-pieces is_newline text

-- ---- all lines

-- What the code's result says of a text that has been read.
abbrev pub Says : Reading → Result Taken RefusedLine → Type 0
Says r (Ok t) = (r.line ≡ 0) × (t.nodes ≡ r.nodes) × (t.steps ≡ length (flat r.steps))
Says r (Err f) = (f.line ≡ r.line) × (0 < f.line) × (code_of f.fault ≡ r.code)

-- The steps before a line that is refused stand in the buffer too.
pub record Read (r : Reading) (before after : List ℕ) (s : Result Taken RefusedLine) : Type 0 where
  pub says : Says r s
  pub put : Put before 0 (flat r.steps) after (length (flat r.steps))
  pub small : All Small r.steps
  pub fits : length (flat r.steps) ≤ length after

-- The lines of which i are read, with the node count and so many bytes of steps.
pub record Going (text before steps : List ℕ) (i nodes n : ℕ) : Type 0 where
  pub done : List Event
  pub room : n + width (drop i (lines text)) ≤ length text + 1
  pub put : Put before 0 (flat done) steps n
  pub small : All Small done
  pub going : behind done (read_from nodes (suc i) (drop i (lines text))) ≡ read_text text

pub going-starts : (text before : List ℕ) → Going text before before 0 0 0
unfolding read_text flat
going-starts text before = record { done = []; room = let w = width-lines text in omega arith; put = put-none before 0; small = tt; going = refl }

module _ {text before steps : List ℕ} {i nodes n : ℕ} (g : Going text before steps i nodes n) where
  -- It ends with these.
  module _ {r : Reading} (e : behind g.done r ≡ read_text text) (none : r.steps ≡ []) (fits : n ≤ length steps) where
    all : (read_text text).steps ≡ g.done
    all = ap (λ (x : Reading). x.steps) (sym e) ∙ ap (λ (l : List Event). g.done ++ l) none ∙ append-nil g.done

    count : n ≡ length (flat g.done)
    count = let z = g.put.place in omega arith

    with_steps : (s : Result Taken RefusedLine) → Says (read_text text) s → Read (read_text text) before steps s
    with_steps s says = record { says = says; put = rw (all, ← count) g.put; small = rw all g.small; fits = rw (all, ← count) fits }

    all_read : r.line ≡ 0 → Read (read_text text) before steps (Ok (record { nodes = r.nodes; steps = n }))
    all_read first = with_steps _ (sym (ap (λ (x : Reading). x.line) e) ∙ first, ap (λ (x : Reading). x.nodes) e, rw all count)

    stopped : (f : RefusedLine) → f.line ≡ r.line → 0 < f.line → code_of f.fault ≡ r.code → Read (read_text text) before steps (Err f)
    stopped f line some code = with_steps _ (line ∙ ap (λ (x : Reading). x.line) e, some, code ∙ ap (λ (x : Reading). x.code) e)

  at-end : length (lines text) ≤ i → behind g.done (ended nodes) ≡ read_text text
  unfolding read_from
  at-end h = ap (λ (ls : List (List ℕ)). behind g.done (read_from nodes (suc i) ls)) (sym (drop_of_length-le (lines text) h)) ∙ g.going

  pub going-empty : length (lines text) ≤ i → nodes ≡ 0 → n ≤ length steps → Read (read_text text) before steps (Err (record { line = 1; fault = Unread }))
  going-empty h e fits = stopped (ap (λ (m : ℕ). behind g.done (ended m)) (sym e) ∙ at-end h) refl fits (record { line = 1; fault = Unread }) refl (omega arith) refl

  pub going-ends : length (lines text) ≤ i → 0 < nodes → n ≤ length steps → Read (read_text text) before steps (Ok (record { nodes = nodes; steps = n }))
  going-ends h p fits = go nodes p (at-end h)
    where
      go : (m : ℕ) → 0 < m → behind g.done (ended m) ≡ read_text text → Read (read_text text) before steps (Ok (record { nodes = m; steps = n }))
      go zero p e = absurd (omega arith)
      go (suc m) p e = all_read e refl fits refl

-- ---- the next line

abbrev steps_of : Take → List Event
steps_of (takes nodes es) = es
steps_of (stops code) = []

-- No line has more bytes of steps than bytes, but for one.
few_bytes : (nodes : ℕ) (l : List ℕ) → length (flat (steps_of (comes_to nodes (line_of l)))) ≤ length l + 1
unfolding flat line_of pieces
few_bytes nodes [] = omega arith
few_bytes nodes (b ∷ l) = let h = two nodes (line_of (b ∷ l)) in omega arith
  where
    head : (count : ℕ) (c : Bool) → length (flat (steps_of (cond c (takes count []) (stops bad_node_count)))) ≤ 2
    head count true = omega arith
    head count false = omega arith

    step : (code nodes : ℕ) (e : Event) → length (flat (steps_of (judged code nodes e))) ≤ 2
    step zero nodes e = omega arith
    step (suc code) nodes e = omega arith

    two : (nodes : ℕ) (x : Line) → length (flat (steps_of (comes_to nodes x))) ≤ 2
    two nodes Blank = omega arith
    two nodes Other = omega arith
    two zero (Nodes count) = head count (within 1 most_nodes count)
    two zero (Step kind node) = omega arith
    two (suc m) (Nodes count) = omega arith
    two (suc m) (Step kind node) = step (fault_of (suc m) (step_of kind node)) (suc m) (step_of kind node)

module _ {text before steps : List ℕ} {i k nodes n : ℕ} {l : List ℕ} (g : Going text before steps i nodes n) (t : Turn text i k l) where
  next-lines : drop i (lines text) ≡ l ∷ drop (suc i) (lines text)
  next-lines = drop-cons (lines text) i l t.more ∙ ap (λ (x : List ℕ). x ∷ drop (suc i) (lines text)) (sym t.line)

  next-room : n + suc (length l) + width (drop (suc i) (lines text)) ≤ length text + 1
  next-room = let r = rw next-lines at g.room in omega arith

  pub line-room : length text + 2 ≤ length before → n + 2 ≤ length steps
  line-room h = let z = put-length g.put in let r = next-room in omega arith

  next : {line : Line} → line ≡ line_of l → behind g.done (after (suc i) (comes_to nodes line) (λ m. read_from m (suc (suc i)) (drop (suc i) (lines text)))) ≡ read_text text
  unfolding read_from
  next is = ap (λ (x : Line). behind g.done (after (suc i) (comes_to nodes x) (λ m. read_from m (suc (suc i)) (drop (suc i) (lines text))))) is
      ∙ ap (λ (ls : List (List ℕ)). behind g.done (read_from nodes (suc i) ls)) (sym next-lines)
      ∙ g.going

  module _ {line : Line} (is : line ≡ line_of l) {steps' : List ℕ} where
    pub going-stops : {f : Fault} → Took (comes_to nodes line) n steps steps' (Err f) → length text + 2 ≤ length before → Read (read_text text) before steps' (Err (record { line = k + 1; fault = f }))
    going-stops {f} took h = go (comes_to nodes line) took.tells (next is)
      where
        fits : n ≤ length steps
        fits = let r = line-room h in omega arith

        number : k + 1 ≡ suc i
        number = let z = t.number in omega arith

        go : (x : Take) → Tells x n steps steps' (Err f) → behind g.done (after (suc i) x (λ m. read_from m (suc (suc i)) (drop (suc i) (lines text)))) ≡ read_text text
            → Read (read_text text) before steps' (Err (record { line = k + 1; fault = f }))
        go (takes m es) w e = absurd w
        go (stops code) w e = rw w.1 (stopped g e refl fits (record { line = k + 1; fault = f }) number (omega arith) w.0)

    pub going_more : {more : Taken} → Took (comes_to nodes line) n steps steps' (Ok more) → Going text before steps' (i + 1) more.nodes more.steps
    going_more {more} took = go (comes_to nodes line) refl took.tells (next is)
      where
        go : (x : Take) → comes_to nodes line ≡ x → Tells x n steps steps' (Ok more) → behind g.done (after (suc i) x (λ m. read_from m (suc (suc i)) (drop (suc i) (lines text)))) ≡ read_text text
            → Going text before steps' (i + 1) more.nodes more.steps
        go (stops code) j w e = absurd w
        go (takes m es) j w e =
            let b : length (flat es) ≤ length l + 1 = rw (ap steps_of (sym j ∙ ap (comes_to nodes) is)) (few_bytes nodes l) in
            let p = w.1.place in
            let r = next-room in
            rw (add-one i) (record {
              done = g.done ++ es;
              room = omega arith;
              put = rw (flat-both g.done es) (put_then g.put w.1);
              small = all_append Small g.done es g.small w.2;
              going = ap (λ (m : ℕ). behind (g.done ++ es) (read_from m (suc (suc i)) (drop (suc i) (lines text)))) w.0
                  ∙ ap (λ (l : List Event). record {
                    line = (read_from m (suc (suc i)) (drop (suc i) (lines text))).line;
                    code = (read_from m (suc (suc i)) (drop (suc i) (lines text))).code;
                    nodes = (read_from m (suc (suc i)) (drop (suc i) (lines text))).nodes;
                    steps = l;
                  }) (append_assoc g.done es (read_from m (suc (suc i)) (drop (suc i) (lines text))).steps)
                  ∙ e;
            })
