-- What is known of every log that was read: it has few records, and few nodes. Assumes nothing.
use Rattle.std.specs.Prelude.{◌≡◌, refl, Bool, true, false, cond, ◌&&◌, List, [], ◌∷◌, map, ℕ, suc, ◌+◌, ◌≤◌, ◌<◌, leb, ltb, length}
use Rattle.std.proofs.Common.{arith, length-append, ltb-true, leb-true}
use Rattle.rules.specs.Limits.{most_nodes}
use Rattle.rules.specs.Range.{within}
use Rattle.rules_laws.specs.All.{All}
use Rattle.rules_laws.specs.Lists.{all_append}
use Rattle.rules_laws.specs.Tests.{is_within}
use Rattle.log_read.specs.declared.Line.{Line}
use Rattle.log_read.specs.declared.Line.TheVariants.{Blank, Two, Four, Other}
use Rattle.any_words.specs.Text.{lines}
use Rattle.log_read.specs.Line.{line_of}
use Rattle.any_words.specs.Numbers.{first-true, both_true}
use Rattle.log_read.specs.Log.{most_records, Row, FirstLine, fits, row_on, Part, after, part, Reading, bad_head, no_head, head_on, headed, read_lines, read_text}

pub fits-few : (records k : ℕ) (l : Line) → records ≤ most_records → fits records l ≡ true → records + length (row_on k l) ≤ most_records
fits-few records k Blank h e = omega arith
fits-few records k (Two a b) h e = omega arith
fits-few records k (Four a b c d) h e = go (ltb records most_records) refl e
  where
    go : (x : Bool) → ltb records most_records ≡ x → x && leb c 255 && leb d 255 ≡ true → records + 1 ≤ most_records
    go true i u = let z = ltb-true records most_records i in omega arith
    go false i u = absurd (let z : ◌≡◌ {A = ℕ} 0 1 = cc in omega arith)
fits-few records k Other h e = omega arith

part-few : (records k : ℕ) (ls : List (List ℕ)) → records ≤ most_records → records + length (part records k ls).rows ≤ most_records
unfolding part
part-few records k [] h = omega arith
part-few records k (l ∷ ls) h = go (fits records (line_of l)) refl (part-few (records + length (row_on k (line_of l))) (suc k) ls)
  where
    rest : Part
    rest = part (records + length (row_on k (line_of l))) (suc k) ls

    go : (b : Bool) → fits records (line_of l) ≡ b → (records + length (row_on k (line_of l)) ≤ most_records → records + length (row_on k (line_of l)) + length rest.rows ≤ most_records)
        → records + length (after b k (row_on k (line_of l)) rest).rows ≤ most_records
    go true e f = let z = f (fits-few records k (line_of l) h e) in let n = length-append (row_on k (line_of l)) rest.rows in omega arith
    go false e f = omega arith

-- What holds of every text whose head is refused, and of every other, holds of all.
each-reading : (P : Reading → Type 0) → ((k : ℕ) → P (bad_head (suc k))) → ((k : ℕ) (l : Line) (ls : List (List ℕ)) → P (headed (suc k) (head_on l) (part 0 (suc (suc k)) ls)))
    → (k : ℕ) (ls : List (List ℕ)) → P (read_lines (suc k) ls)
each-reading P bad good k [] = bad 0
each-reading P bad good k (l ∷ ls) = go (head_on (line_of l)).empty (each-reading P bad good (suc k) ls)
  where
    go : (b : Bool) → P (read_lines (suc (suc k)) ls) → P (cond b (read_lines (suc (suc k)) ls) (headed (suc k) (head_on (line_of l)) (part 0 (suc (suc k)) ls)))
    go true next = next
    go false next = good k (line_of l) ls

headed-few : (k : ℕ) (h : FirstLine) (p : Part) → length p.rows ≤ most_records → length (headed k h p).rows ≤ most_records
headed-few k h p f = go h.good
  where
    go : (b : Bool) → length (headed k (record { empty = h.empty; good = b; nodes = h.nodes; bound = h.bound }) p).rows ≤ most_records
    go true = f
    go false = omega arith

pub few-rows : (text : List ℕ) → length (read_text text).rows ≤ most_records
unfolding read_text
few-rows text =
    each-reading (λ r. length r.rows ≤ most_records) (λ k. omega arith)
    (λ k l ls. headed-few (suc k) (head_on l) (part 0 (suc (suc k)) ls) (let z = part-few 0 (suc (suc k)) ls (omega arith) in omega arith)) 0 (lines text)

head-nodes : (l : Line) → (head_on l).nodes ≤ 8
head-nodes Blank = omega arith
head-nodes (Two n d) = go (within 1 most_nodes n) refl
  where
    go : (b : Bool) → within 1 most_nodes n ≡ b → (cond b (record { empty = false; good = true; nodes = n; bound = d }) (no_head false)).nodes ≤ 8
    go true e = let z = ((is_within 1 most_nodes n).to (rw e tt)).upper in omega arith
    go false e = omega arith
head-nodes (Four a b c d) = omega arith
head-nodes Other = omega arith

headed-nodes : (k : ℕ) (h : FirstLine) (p : Part) → h.nodes ≤ 8 → (headed k h p).nodes ≤ 8
headed-nodes k h p f = go h.good
  where
    go : (b : Bool) → (headed k (record { empty = h.empty; good = b; nodes = h.nodes; bound = h.bound }) p).nodes ≤ 8
    go true = f
    go false = omega arith

pub few-nodes : (text : List ℕ) → (read_text text).nodes ≤ 8
unfolding read_text
few-nodes text =
    each-reading (λ r. r.nodes ≤ 8) (λ k. omega arith) (λ k l ls. headed-nodes (suc k) (head_on l) (part 0 (suc (suc k)) ls) (head-nodes l)) 0 (lines text)

-- A log that is not refused has a node.
pub good-nodes : (text : List ℕ) → (read_text text).refused ≡ 0 → 1 ≤ (read_text text).nodes
unfolding read_text
good-nodes text = each-reading (λ r. r.refused ≡ 0 → 1 ≤ r.nodes) (λ k e. absurd (omega arith)) (λ k l ls. said k l (part 0 (suc (suc k)) ls)) 0 (lines text)
  where
    said : (k : ℕ) (l : Line) (p : Part) → (headed (suc k) (head_on l) p).refused ≡ 0 → 1 ≤ (headed (suc k) (head_on l) p).nodes
    said k Blank p e = absurd (omega arith)
    said k (Two n d) p e = pick (within 1 most_nodes n) refl e
      where
        pick : (b : Bool) → within 1 most_nodes n ≡ b → (headed (suc k) (cond b (record { empty = false; good = true; nodes = n; bound = d }) (no_head false)) p).refused ≡ 0
            → 1 ≤ (headed (suc k) (cond b (record { empty = false; good = true; nodes = n; bound = d }) (no_head false)) p).nodes
        pick true i u = ((is_within 1 most_nodes n).to (rw i tt)).lower
        pick false i u = absurd (omega arith)
    said k (Four a b c d) p e = absurd (omega arith)
    said k Other p e = absurd (omega arith)

-- ---- kinds and nodes fit bytes

abbrev Small : Row → Type 0
Small r = (r.logged.event.kind < 256) × (r.logged.event.node < 256)

small-on : (records k : ℕ) (l : Line) → fits records l ≡ true → All Small (row_on k l)
small-on records k Blank e = tt
small-on records k (Two a b) e = tt
small-on records k (Four a b c d) e =
    let x = leb-true c 255 (both_true (ltb records most_records) (leb c 255) (first-true (ltb records most_records && leb c 255) (leb d 255) e)) in
    let y = leb-true d 255 (both_true (ltb records most_records && leb c 255) (leb d 255) e) in
    ((omega arith, omega arith), tt)
small-on records k Other e = tt

small-part : (records k : ℕ) (ls : List (List ℕ)) → All Small (part records k ls).rows
unfolding part
small-part records k [] = tt
small-part records k (l ∷ ls) = go (fits records (line_of l)) refl (small-part (records + length (row_on k (line_of l))) (suc k) ls)
  where
    rest : Part
    rest = part (records + length (row_on k (line_of l))) (suc k) ls

    go : (b : Bool) → fits records (line_of l) ≡ b → All Small rest.rows → All Small (after b k (row_on k (line_of l)) rest).rows
    go true e s = all_append Small (row_on k (line_of l)) rest.rows (small-on records k (line_of l) e) s
    go false e s = tt

small-steps : (rows : List Row) → All Small rows → All (λ e. (e.kind < 256) × (e.node < 256)) (map (λ r. r.logged.event) rows)
small-steps [] s = tt
small-steps (r ∷ rows) s = (s.0, small-steps rows s.1)

pub small-rows : (text : List ℕ) → All (λ e. (e.kind < 256) × (e.node < 256)) (map (λ r. r.logged.event) (read_text text).rows)
unfolding read_text
small-rows text = small-steps (read_lines 1 (lines text)).rows (each-reading (λ r. All Small r.rows) (λ k. tt) (λ k l ls. head (suc k) (head_on l) (part 0 (suc (suc k)) ls) (small-part 0 (suc (suc k)) ls)) 0 (lines text))
  where
    head : (k : ℕ) (h : FirstLine) (p : Part) → All Small p.rows → All Small (headed k h p).rows
    head k h p s = pick h.good
      where
        pick : (b : Bool) → All Small (headed k (record { empty = h.empty; good = b; nodes = h.nodes; bound = h.bound }) p).rows
        pick true = s
        pick false = tt
