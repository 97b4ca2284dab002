-- Only a pair whose exchange differs gives a line "differs", and only a pair that stands against the clocks a line "against". Assumes nothing.
use Rattle.std.specs.Prelude.{◌≡◌, Bool, cond, T, eqb, leb, length, get_or, take, Option, None, Some, unwrap_or}
use Rattle.std.proofs.Math.Path.{refl}
use Rattle.std.proofs.Common.{sym, ap, ◌∙◌, arith}
use Rattle.std.proofs.Math.Bool.{true, false}
use mathlib.Core.List.{List, [], ◌∷◌, ◌++◌, append_assoc, append-nil}
use Prim.Native.Nat.{ℕ, zero, suc, ◌<◌}
use Rattle.rules.specs.Range.{all}
use Rattle.rules.specs.Step.{Event, step, fresh}
use Rattle.rules.specs.Run.{run}
use Rattle.rules_laws.specs.All.{All}
use Rattle.merge_verdict.specs.Clocks.{Logged, events, clocks, Timely}
use Rattle.any_text.specs.Line.{spaced, line}
use Rattle.run_difference.specs.Alike.{not_alike}
use Rattle.merge_text.specs.Words as R
use Rattle.run_difference.specs.declared.Parting.{Parting}
use Rattle.merge_text.specs.Report.{missing, parting_line}
use Rattle.log_read.specs.Log.{longest_text, Row, row_numbers, read_text}
use Rattle.log_records.specs.Rows.{no_row, steps_of, merged}
use Rattle.log_records.specs.PairLine.{doubt, against, pair_line}
use Rattle.log_exchange.specs.Exchange.{exchanged, allowed, history_of, parting_of}
use Rattle.log_exchange.specs.Allowed.{exchange-allowed}
use Rattle.log_doubts.specs.declared.Pair.{Pair}
use Rattle.log_doubts.specs.Doubts.{doubt_at, doubts}
use Rattle.log_doubts.specs.Inside.{Inside, pairs-inside}
use Rattle.log_text.specs.Words as W
use Rattle.log_text.specs.Answer.{outcome, pair_text, shown, most_shown, doubts_text, log_text, answer}
use Rattle.log_text.specs.Means.{Says, writes_of, OtherWrites, DiffersMeans, AgainstMeans}
use Rattle.log_text.specs.Lines.{plain, says-line, says_none}

-- ---- a word that begins no other line

-- No line that is this word with numbers behind it begins with the other.
abbrev Unlike : List ℕ → List ℕ → Type 0
Unlike other word = (ns : List ℕ) → take (length other) (word ++ spaced ns) ≡ other → ⊥

record Apart (other : List ℕ) : Type 0 where
  some : take (length other) [] ≡ other → ⊥
  same : Unlike other R.same
  more : Unlike other W.more
  refused : Unlike other W.refused_line
  long : Unlike other W.refused_long
  doubt : Unlike other doubt
  unsettled : Unlike other W.unsettled
  agrees : Unlike other R.agrees

-- Equal words have equal letters at a place.
letter : (i : ℕ) {k l : List ℕ} → k ≡ l → get_or k i 0 ≡ get_or l i 0
letter i e = ap (λ (m : List ℕ). get_or m i 0) e

apart-differs : Apart R.differs
apart-differs = record {
  some = λ e. let z : ◌≡◌ {A = ℕ} 0 100 = letter 0 e in absurd (omega arith);
  same = λ ns e. let z : ◌≡◌ {A = ℕ} 115 100 = letter 0 e in absurd (omega arith);
  more = λ ns e. let z : ◌≡◌ {A = ℕ} 109 100 = letter 0 e in absurd (omega arith);
  refused = λ ns e. let z : ◌≡◌ {A = ℕ} 114 100 = letter 0 e in absurd (omega arith);
  long = λ ns e. let z : ◌≡◌ {A = ℕ} 114 100 = letter 0 e in absurd (omega arith);
  doubt = λ ns e. let z : ◌≡◌ {A = ℕ} 111 105 = letter 1 e in absurd (omega arith);
  unsettled = λ ns e. let z : ◌≡◌ {A = ℕ} 111 100 = letter 0 e in absurd (omega arith);
  agrees = λ ns e. let z : ◌≡◌ {A = ℕ} 97 100 = letter 0 e in absurd (omega arith);
}

apart-against : Apart against
apart-against = record {
  some = λ e. let z : ◌≡◌ {A = ℕ} 0 97 = letter 0 e in absurd (omega arith);
  same = λ ns e. let z : ◌≡◌ {A = ℕ} 115 97 = letter 0 e in absurd (omega arith);
  more = λ ns e. let z : ◌≡◌ {A = ℕ} 109 97 = letter 0 e in absurd (omega arith);
  refused = λ ns e. let z : ◌≡◌ {A = ℕ} 114 97 = letter 0 e in absurd (omega arith);
  long = λ ns e. let z : ◌≡◌ {A = ℕ} 114 97 = letter 0 e in absurd (omega arith);
  doubt = λ ns e. let z : ◌≡◌ {A = ℕ} 100 97 = letter 0 e in absurd (omega arith);
  unsettled = λ ns e. let z : ◌≡◌ {A = ℕ} 111 97 = letter 0 e in absurd (omega arith);
  agrees = λ ns e. let z : ◌≡◌ {A = ℕ} 114 97 = letter 2 e in absurd (omega arith);
}

-- ---- who says it

module _ (C : Type 0) (other : List ℕ) (apart : Apart other) where
  -- One line, with nothing behind it.
  one_line : (word ns : List ℕ) → plain word ≡ true → Unlike other word → Says other (line word ns) → C
  one_line word ns h u s =
      says-line other word ns [] h (λ e. absurd (u ns e)) (says_none other (λ e. absurd (apart.some e)))
      (record { place = s.place; begins = rw (append-nil (line word ns)) s.begins })

  module _ (count bound : ℕ) (rows : List Row) where
    -- The exchange of a pair that was tried, where the histories differ.
    abbrev OnDiffers : Type 0
    OnDiffers = (p : Pair) → Inside (length rows) p → (up : Bool) → allowed bound rows up p.x p.y ≡ true → (d : Parting) → parting_of count rows up p.x p.y ≡ Some d
        → (ns : List ℕ) → take (length other) (R.differs ++ spaced ns) ≡ other → C

    -- A pair that stands against the clocks.
    abbrev OnAgainst : Type 0
    OnAgainst = (p : Pair) → Inside (length rows) p → clocks bound (get_or rows p.x no_row).logged (get_or rows p.y no_row).logged ≡ false
        → (ns : List ℕ) → take (length other) (against ++ spaced ns) ≡ other → C

    in-outcome : OnDiffers → (p : Pair) → Inside (length rows) p → (rest : List ℕ) → (Says other rest → C) → Says other (outcome count bound rows p ++ rest) → C
    unfolding outcome parting_line all
    in-outcome got p i rest behind s = go (allowed bound rows true p.x p.y) refl (allowed bound rows false p.x p.y) refl s
      where
        parting : (up : Bool) → allowed bound rows up p.x p.y ≡ true → Says other (parting_line (parting_of count rows up p.x p.y) ++ rest) → C
        parting up e t = pick (parting_of count rows up p.x p.y) refl t
          where
            numbers : Parting → List ℕ
            numbers d =
                d.at ∷ (unwrap_or d.one missing).node ∷ (unwrap_or d.one missing).term.0 ∷ (unwrap_or d.other missing).node ∷ (unwrap_or d.other missing).term.0 ∷ []

            pick : (o : Option Parting) → parting_of count rows up p.x p.y ≡ o → Says other (parting_line o ++ rest) → C
            pick None j u = says-line other R.agrees [] rest refl (λ f. absurd (apart.agrees [] f)) behind u
            pick (Some d) j u = says-line other R.differs (numbers d) rest refl (got p i up e d j (numbers d)) behind u

        go : (a : Bool) → allowed bound rows true p.x p.y ≡ a → (b : Bool) → allowed bound rows false p.x p.y ≡ b
            → Says other (cond a (parting_line (parting_of count rows true p.x p.y))
            (cond b (parting_line (parting_of count rows false p.x p.y)) (line W.unsettled [])) ++ rest) → C
        go true e b f t = parting true e t
        go false e true f t = parting false f t
        go false e false f t = says-line other W.unsettled [] rest refl (λ g. absurd (apart.unsettled [] g)) behind t

    in_pair : OnDiffers → OnAgainst → (p : Pair) → Inside (length rows) p → (rest : List ℕ) → (Says other rest → C) → Says other (pair_text count bound rows p ++ rest) → C
    unfolding all
    in_pair got stands p i rest behind s =
        go (clocks bound (get_or rows p.x no_row).logged (get_or rows p.y no_row).logged) refl
        (record { place = s.place; begins = rw (← append_assoc (pair_line bound (get_or rows p.x no_row) (get_or rows p.y no_row)) (outcome count bound rows p) rest) s.begins })
      where
        numbers : List ℕ
        numbers = row_numbers (get_or rows p.x no_row) ++ row_numbers (get_or rows p.y no_row)

        go : (b : Bool) → clocks bound (get_or rows p.x no_row).logged (get_or rows p.y no_row).logged ≡ b
            → Says other (line (cond b doubt against) numbers ++ (outcome count bound rows p ++ rest)) → C
        go true e t = says-line other doubt numbers (outcome count bound rows p ++ rest) refl (λ f. absurd (apart.doubt numbers f)) (in-outcome got p i rest behind) t
        go false e t = says-line other against numbers (outcome count bound rows p ++ rest) refl (stands p i e numbers) (in-outcome got p i rest behind) t

    in-shown : OnDiffers → OnAgainst → (k : ℕ) (ps : List Pair) → All (Inside (length rows)) ps → Says other (shown (pair_text count bound rows) k ps) → C
    unfolding shown all
    in-shown got stands zero [] a s = says_none other (λ e. absurd (apart.some e)) s
    in-shown got stands zero (p ∷ ps) a s = one_line W.more [] refl apart.more s
    in-shown got stands (suc k) [] a s = says_none other (λ e. absurd (apart.some e)) s
    in-shown got stands (suc k) (p ∷ ps) a s =
        in_pair got stands p a.0 (shown (pair_text count bound rows) k ps) (in-shown got stands k ps a.1) s

    in-log : OnDiffers → OnAgainst → Says other (log_text count bound rows) → C
    unfolding doubts_text all
    in-log got stands s = go (doubts count bound rows) (pairs-inside (doubt_at count bound rows) (length rows) 0 (length rows) (omega arith)) s
      where
        go : (ps : List Pair) → All (Inside (length rows)) ps → Says other (doubts_text (pair_text count bound rows) ps) → C
        go [] a t = one_line R.same [] refl apart.same t
        go (p ∷ ps) a t = in-shown got stands most_shown (p ∷ ps) a t

  meant : (text : List ℕ) → OnDiffers (read_text text).nodes (read_text text).bound (read_text text).rows → OnAgainst (read_text text).nodes (read_text text).bound (read_text text).rows
      → Says other (answer text) → C
  unfolding answer all
  meant text got stands s = go (leb (length text) longest_text) (eqb (read_text text).refused 0) s
    where
      go : (a b : Bool)
          → Says other (cond a (cond b (log_text (read_text text).nodes (read_text text).bound (read_text text).rows) (line W.refused_line ((read_text text).refused ∷ []))) (line W.refused_long [])) → C
      go true true t = in-log (read_text text).nodes (read_text text).bound (read_text text).rows got stands t
      go true false t = one_line W.refused_line ((read_text text).refused ∷ []) refl apart.refused t
      go false b t = one_line W.refused_long [] refl apart.long t

-- ---- "differs"

steps-merged : (rows : List Row) → events (merged rows) ≡ steps_of rows
steps-merged [] = refl
steps-merged (r ∷ rows) = ap (λ (es : List Event). r.logged.event ∷ es) (steps-merged rows)

writes-merged : (count : ℕ) (rows : List Row) → writes_of count (merged rows) ≡ history_of count rows
writes-merged count rows = ap (λ (es : List Event). (run step (fresh count) es).state.history) (steps-merged rows)

pub differs-means : DiffersMeans
differs-means text s t = meant (OtherWrites (read_text text)) R.differs apart-differs text exchange (λ p i e ns f. absurd (let z : ◌≡◌ {A = ℕ} 97 100 = letter 0 f in omega arith)) s
  where
    exchange : OnDiffers (OtherWrites (read_text text)) R.differs apart-differs (read_text text).nodes (read_text text).bound (read_text text).rows
    exchange p i up e d parts ns f =
        let rows = (read_text text).rows in
        let k = exchange-allowed (read_text text).bound rows up p.x p.y i.0 i.1 e t in
        record {
          other = merged (exchanged up p.x p.y rows);
          same-logs = k.0;
          allowed = k.1;
          differs = λ same. not_alike (history_of (read_text text).nodes rows) (history_of (read_text text).nodes (exchanged up p.x p.y rows)) parts
              (sym (writes-merged (read_text text).nodes rows) ∙ same ∙ writes-merged (read_text text).nodes (exchanged up p.x p.y rows));
        }

-- ---- "against"

all-at : (P : Logged → Type 0) (rows : List Row) → All P (merged rows) → (i : ℕ) → i < length rows → P (get_or rows i no_row).logged
all-at P [] a i h = absurd (omega arith)
all-at P (r ∷ rows) a zero h = a.0
all-at P (r ∷ rows) a (suc i) h = all-at P rows a.1 i (omega arith)

timely-at : (may : Logged → Logged → Bool) (rows : List Row) → Timely may (merged rows) → (x y : ℕ) → x < y → y < length rows → T (may (get_or rows x no_row).logged (get_or rows y no_row).logged)
timely-at may [] t x y h k = absurd (omega arith)
timely-at may (r ∷ rows) t zero zero h k = absurd (omega arith)
timely-at may (r ∷ rows) t zero (suc y) h k = all-at (λ z. T (may r.logged z)) rows t.0 y (omega arith)
timely-at may (r ∷ rows) t (suc x) zero h k = absurd (omega arith)
timely-at may (r ∷ rows) t (suc x) (suc y) h k = timely-at may rows t.1 x y (omega arith) (omega arith)

pub against-means : AgainstMeans
against-means text s t = meant ⊥ against apart-against text
    (λ p i up e d parts ns f. absurd (let z : ◌≡◌ {A = ℕ} 100 97 = letter 0 f in omega arith))
    (λ p i e ns f. rw e at (timely-at (clocks (read_text text).bound) (read_text text).rows t p.x p.y i.0 i.1)) s
