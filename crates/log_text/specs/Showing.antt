-- What pairs are shown, put into the buffer one after another. Assumes nothing.
use Rattle.std.specs.Prelude.{◌≡◌, ◌≢◌, Bool, true, false, get_or, take, Option}
use Rattle.std.proofs.Math.Path.{refl, sym, ap}
use Rattle.std.proofs.Common.{ap₂, ◌∙◌, add-one, drop-cons}
use mathlib.Core.List.{List, [], ◌∷◌, ◌++◌, append_assoc, append-nil}
use Prim.Native.Nat.{ℕ, zero, suc, ◌+◌, ◌*◌, ◌-◌, ◌≤◌, ◌<◌}
use native.Mathlib.Omega.{arith}
use Rattle.std.proofs.Math.ListN.{length, drop}
use Rattle.any_text.specs.Line.{line}
use Rattle.any_text.specs.Put.{Put}
use Rattle.any_text.specs.Puts.{put-none, put_then}
use Rattle.merge_text.specs.Words as R
use Rattle.merge_text.specs.Report.{parting_line}
use Rattle.run_difference.specs.declared.Parting.{Parting}
use Rattle.log_read.specs.Log.{Row}
use Rattle.log_exchange.specs.Exchange.{allowed, parting_of}
use Rattle.log_records.specs.Rows.{no_row, row_at, rows_of}
use Rattle.log_records.specs.Places.{rows-get}
use Rattle.log_read.specs.declared.Record.{Record}
use Rattle.log_records.specs.PairLine.{pair_line}
use Rattle.log_doubts.specs.declared.Pair.{Pair}
use Rattle.log_doubts.specs.Doubts.{doubts}
use Rattle.log_doubts.specs.Found.{most_pairs}
use Rattle.log_doubts.specs.Inside.{no_pair}
use Rattle.log_text.specs.Words as W
use Rattle.log_text.specs.Answer.{outcome, pair_text, shown, most_shown, doubts_text, log_text}

-- The bytes of a pair, at most.
abbrev pub pair_room : ℕ
pair_room = 384

-- The bytes of a text, at most.
abbrev pub longest : ℕ
longest = 8192

-- ---- the loop

-- The first i pairs are shown.
pub record Showing (f : Pair → List ℕ) (ps : List Pair) (before after : List ℕ) (at i : ℕ) : Type 0 where
  pub done : List ℕ
  pub few : i ≤ most_shown
  pub short : at ≤ pair_room * i
  pub put : Put before 0 done after at
  pub going : done ++ shown f (most_shown - i) (drop i ps) ≡ shown f most_shown ps

module _ {f : Pair → List ℕ} {ps : List Pair} where
  pub showing-starts : (before : List ℕ) → Showing f ps before before 0 0
  showing-starts before = record { done = []; few = omega arith; short = omega arith; put = put-none before 0; going = refl }

  module _ {before after : List ℕ} {at i : ℕ} (s : Showing f ps before after at i) where
    pub showing-ends : length ps ≤ i → Put before 0 (shown f most_shown ps) after at
    unfolding shown
    showing-ends h =
        let all : s.done ≡ shown f most_shown ps = sym (append-nil s.done) ∙ ap (λ (l : List ℕ). s.done ++ l) (sym (nothing (most_shown - i))) ∙ ap (λ (l : List Pair). s.done ++ shown f (most_shown - i) l) (sym (over i ps h)) ∙ s.going in
        rw (← all) s.put
      where
        nothing : (m : ℕ) → shown f m [] ≡ []
        nothing zero = refl
        nothing (suc m) = refl

        over : (k : ℕ) (l : List Pair) → length l ≤ k → drop k l ≡ []
        over zero [] h = refl
        over zero (p ∷ l) h = absurd (omega arith)
        over (suc k) [] h = refl
        over (suc k) (p ∷ l) h = over k l (omega arith)

    module _ (h : i < length ps) where
      left : s.done ++ shown f (most_shown - i) (get_or ps i no_pair ∷ drop (suc i) ps) ≡ shown f most_shown ps
      left = ap (λ (l : List Pair). s.done ++ shown f (most_shown - i) l) (sym (drop-cons ps i no_pair h)) ∙ s.going

      pub showing-full : i ≡ most_shown → {m : List ℕ} {j : ℕ} → Put after at (line W.more []) m j → Put before 0 (shown f most_shown ps) m j
      unfolding shown
      showing-full e q =
          let last : most_shown - i ≡ 0 = omega arith in
          let all : s.done ++ line W.more [] ≡ shown f most_shown ps = ap (λ (x : ℕ). s.done ++ shown f x (get_or ps i no_pair ∷ drop (suc i) ps)) (sym last) ∙ left in
          rw (← all) (put_then s.put q)

      pub showing-more : i < most_shown → {p : Pair} → get_or ps i no_pair ≡ p → {m : List ℕ} {j : ℕ} → Put after at (f p) m j → j ≤ at + pair_room → Showing f ps before m j (i + 1)
      unfolding shown
      showing-more l {p} e q w = record {
        done = s.done ++ f p;
        few = omega arith;
        short = let z = s.short in omega arith;
        put = put_then s.put q;
        going =
            let one : most_shown - i ≡ suc (most_shown - suc i) = omega arith in
            rw (add-one i)
            (append_assoc s.done (f p) (shown f (most_shown - suc i) (drop (suc i) ps))
            ∙ rw (← e) (ap (λ (x : ℕ). s.done ++ shown f x (get_or ps i no_pair ∷ drop (suc i) ps)) (sym one) ∙ left));
      }

-- ---- the whole text

shown-some : (f : Pair → List ℕ) (k : ℕ) (ps : List Pair) → shown f k (take (suc k) ps) ≡ shown f k ps
unfolding shown
shown-some f zero [] = refl
shown-some f zero (p ∷ ps) = refl
shown-some f (suc k) [] = refl
shown-some f (suc k) (p ∷ ps) = ap (λ (l : List ℕ). f p ++ l) (shown-some f k ps)

module _ (count bound : ℕ) (rows : List Row) {k : ℕ} (e : k ≡ length (take most_pairs (doubts count bound rows))) where
  pub log-same : k ≡ 0 → line R.same [] ≡ log_text count bound rows
  unfolding doubts_text
  log-same z = go (doubts count bound rows) (sym e ∙ z)
    where
      go : (ps : List Pair) → length (take most_pairs ps) ≡ 0 → line R.same [] ≡ doubts_text (pair_text count bound rows) ps
      go [] i = refl
      go (p ∷ ps) i = absurd (omega arith)

  pub log-shown : k ≢ 0 → shown (pair_text count bound rows) most_shown (take most_pairs (doubts count bound rows)) ≡ log_text count bound rows
  unfolding doubts_text
  log-shown z = shown-some (pair_text count bound rows) most_shown (doubts count bound rows) ∙ go (doubts count bound rows) (λ i. z (e ∙ i))
    where
      go : (ps : List Pair) → length (take most_pairs ps) ≢ 0 → shown (pair_text count bound rows) most_shown ps ≡ doubts_text (pair_text count bound rows) ps
      go [] n = absurd (n refl)
      go (p ∷ ps) n = refl

-- ---- the lines, by the records that the code holds

pub pair-line : (bound : ℕ) (l : List Record) (p : Pair) → pair_line bound (row_at l p.x) (row_at l p.y) ≡ pair_line bound (get_or (rows_of l) p.x no_row) (get_or (rows_of l) p.y no_row)
pair-line bound l p = sym (ap₂ (pair_line bound) (rows-get l p.x) (rows-get l p.y))

-- ---- what an exchange does, by the tests that the code makes

module _ (count bound : ℕ) (rows : List Row) (p : Pair) where
  pub outcome-up : {a : Bool} → a ≡ allowed bound rows true p.x p.y → a ≡ true → {d : Option Parting} → d ≡ parting_of count rows true p.x p.y → parting_line d ≡ outcome count bound rows p
  unfolding outcome
  outcome-up e t f = let z = sym e ∙ t in rw (z, f)

  module _ {a : Bool} (e : a ≡ allowed bound rows true p.x p.y) (u : a ≡ false) where
    pub outcome-down : {b : Bool} → b ≡ allowed bound rows false p.x p.y → b ≡ true → {d : Option Parting} → d ≡ parting_of count rows false p.x p.y → parting_line d ≡ outcome count bound rows p
    unfolding outcome
    outcome-down g t f = let z = sym e ∙ u in let y = sym g ∙ t in rw (z, y, f)

    pub outcome-open : {b : Bool} → b ≡ allowed bound rows false p.x p.y → b ≡ false → line W.unsettled [] ≡ outcome count bound rows p
    unfolding outcome
    outcome-open g t = let z = sym e ∙ u in let y = sym g ∙ t in rw (z, y)
