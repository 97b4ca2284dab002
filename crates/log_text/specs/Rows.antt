-- What the code has read says the records of a log, and the answer by what the code has found. Assumes nothing.
use Rattle.std.specs.Prelude.{◌≡◌, ◌≢◌, refl, Bool, true, false, cond, List, [], ◌∷◌, ◌++◌, map, Result, Ok, Err, ℕ, ◌+◌, ◌≤◌, ◌<◌, eqb, length, take, drop}
use Rattle.std.proofs.Math.Path.{sym, ap, ap₂}
use Rattle.std.proofs.Common.{◌∙◌, arith, eqb-true, eq-eqb, ne_eqb, le-leb}
use Rattle.std.proofs.lemmas.Bool.{lt-leb, eqb-false}
use Rattle.std.proofs.lemmas.List.{length-map, take-append-le}
use Rattle.std.proofs.lemmas.List.Edits.{sets, sets-eq}
use Rattle.std.proofs.Math.Seq.{take-length}
use mathlib.Core.HLevel.{×_prop, Unit-prop}
use Rattle.std.proofs.Math.Bridge.{le_prop}
use Rattle.rules.specs.Step.{Event}
use Rattle.any_text.specs.Line.{line}
use Rattle.log_read.specs.Log.{longest_text, Reading, read_text, record_of, log_of}
use Rattle.log_read.specs.Known.{few-rows, few-nodes, good-nodes, small-rows}
use Rattle.log_read.specs.declared.Record.{Record}
use Rattle.log_read.specs.declared.Log.{Log}
use Rattle.log_read.specs.declared.Refused.{Refused}
use Rattle.log_records.specs.Rows.{rows_of, steps_of}
use Rattle.log_records.specs.Places.{rows-back}
use Rattle.run_lists.specs.Made.{Small}
use Rattle.rules_laws.specs.All.{All}
use Rattle.log_text.specs.Words as W
use Rattle.log_text.specs.Answer.{log_text, answer}

-- What is known of a good log: it has few records, with kinds and nodes that fit bytes.
pub record Known (count : ℕ) (l : List Record) : Type 0 where
  pub low : 1 ≤ count
  pub high : count ≤ 8
  pub few : length l ≤ 32762
  pub small : All Small (steps_of (rows_of l))

-- It is known in one way at most, as the check asks of a fact that a struct holds.
small-once : (es : List Event) → IsProp (All Small es)
small-once [] = Unit-prop
small-once (e ∷ es) = ×_prop (×_prop le_prop le_prop) (small-once es)

pub known-once : (count : ℕ) (l : List Record) → IsProp (Known count l)
known-once count l = hlevel (small-once, le_prop)

-- ---- what a reading says

pub record Good (t : Reading) (log : Log) : Type 0 where
  pub good : t.refused ≡ 0
  pub is : ◌≡◌ {A = Log} log (record { nodes = t.nodes; bound = t.bound; records = length t.rows })

pub said-good : (t : Reading) {log : Log} → Ok log ≡ log_of t → Good t log
said-good t {log} e = go (eqb t.refused 0) refl e
  where
    go : (b : Bool) → eqb t.refused 0 ≡ b → ◌≡◌ {A = Result Log Refused} (Ok log) (cond b (Ok (record { nodes = t.nodes; bound = t.bound; records = length t.rows })) (Err (record { line = t.refused; nodes = t.nodes; bound = t.bound; records = length t.rows }))) → Good t log
    go true i u = record { good = eqb-true _ _ i; is = cc }
    go false i u = absurd (cc)

pub said-refused : (t : Reading) {r : Refused} → Err r ≡ log_of t → (t.refused ≢ 0) × (r.line ≡ t.refused)
said-refused t {r} e = go (eqb t.refused 0) refl e
  where
    go : (b : Bool) → eqb t.refused 0 ≡ b → ◌≡◌ {A = Result Log Refused} (Err r) (cond b (Ok (record { nodes = t.nodes; bound = t.bound; records = length t.rows })) (Err (record { line = t.refused; nodes = t.nodes; bound = t.bound; records = length t.rows }))) → (t.refused ≢ 0) × (r.line ≡ t.refused)
    go true i u = absurd (cc)
    go false i u = (eqb-false _ _ i, cc)

-- ---- the answer, by what the code has found

pub answer-long : (text : List ℕ) → longest_text < length text → line W.refused_long [] ≡ answer text
unfolding answer
answer-long text h = rw (lt-leb (length text) longest_text h)

module _ (text : List ℕ) (short : length text ≤ longest_text) where
  pub answer-refused : {r : Refused} → Err r ≡ log_of (read_text text) → line W.refused_line (r.line ∷ []) ≡ answer text
  unfolding answer
  answer-refused {r} e =
      let s = said-refused (read_text text) e in
      rw (le-leb (length text) longest_text short, ne_eqb (read_text text).refused 0 s.0, s.1)

  pub few-records : {log : Log} → Ok log ≡ log_of (read_text text) → log.records ≤ 32762
  few-records e = let few = few-rows text in let z = ap (λ (x : Log). x.records) (said-good (read_text text) e).is in omega arith

  module _ {log : Log} (e : Ok log ≡ log_of (read_text text)) (before after : List Record) (size : length before ≡ 32762) (o : after ≡ sets before 0 (map record_of (read_text text).rows)) where
    count : log.records ≡ length (map record_of (read_text text).rows)
    count = ap (λ (x : Log). x.records) (said-good (read_text text) e).is ∙ sym (length-map (read_text text).rows record_of)

    records : take log.records after ≡ map record_of (read_text text).rows
    records =
        let rs = map record_of (read_text text).rows in
        let few = few-records e in
        let n = count in
        let is : after ≡ rs ++ drop (0 + length rs) before = o ∙ sets-eq rs before 0 (omega arith) in
        ap₂ (λ (n : ℕ) (l : List Record). take n l) n is ∙ take-append-le (length rs) rs (drop (0 + length rs) before) (omega arith) ∙ take-length rs

    rows-here : rows_of (take log.records after) ≡ (read_text text).rows
    rows-here = ap rows_of records ∙ rows-back (read_text text).rows

    pub answer-known : Known log.nodes (take log.records after)
    answer-known =
        let g = said-good (read_text text) e in
        let n = ap (λ (x : Log). x.nodes) g.is in
        let low = good-nodes text g.good in
        let high = few-nodes text in
        let few = few-records e in
        let size = ap length records ∙ sym count in
        record { low = omega arith; high = omega arith; few = omega arith; small = rw rows-here (small-rows text) }

    pub answer-good : log_text log.nodes log.bound (rows_of (take log.records after)) ≡ answer text
    unfolding answer
    answer-good =
        let g = said-good (read_text text) e in
        ap (log_text log.nodes log.bound) rows-here
        ∙ ap (λ (x : Log). log_text x.nodes x.bound (read_text text).rows) g.is
        ∙ rw (le-leb (length text) longest_text short, eq-eqb (read_text text).refused 0 g.good)
