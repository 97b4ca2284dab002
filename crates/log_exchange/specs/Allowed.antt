-- An exchange that is allowed is one of neighbours after another, each of two records that may change places. Assumes nothing.
use Rattle.std.specs.Prelude.{◌≡◌, ◌≢◌, Bool, true, false, not, ◌&&◌, T, eqb, length, get_or}
use Rattle.std.proofs.Math.Path.{refl}
use Rattle.std.proofs.Common.{sym, ap, ap₂, ◌∙◌, true≢false, add-one, arith, eq-eqb}
use mathlib.Core.List.{List, [], ◌∷◌}
use Prim.Native.Nat.{ℕ, zero, suc, ◌+◌, ◌-◌, ◌≤◌, ◌<◌}
use Rattle.std.proofs.Math.Decide.{dec_lt, ℕ_discrete}
use Rattle.rules.specs.Range.{all}
use Rattle.merge_verdict.specs.Verdict.{Exchanges}
use Rattle.merge_verdict.specs.Clocks.{clocks, MayPass}
use Rattle.merge_verdict.specs.Chains.{still, two, chain, under, exchanges-map}
use Rattle.merge_verdict.proofs.Passing.{still-allowed}
use Rattle.any_search.specs.Places.{from}
use Rattle.any_list.specs.Tables.{table_of, table-ext}
use Rattle.log_read.specs.Log.{Row}
use Rattle.log_records.specs.Rows.{no_row, merged}
use Rattle.log_exchange.specs.Exchange.{moved_up, moved_down, moved, exchanged, may_pass, allowed, ExchangeAllowed}
use Rattle.log_exchange.specs.Moves.{before-both, up_first, up-passed, up-behind, down-passed, down-last, down-behind}
use Rattle.log_exchange.specs.Passing.{all-false}

-- ---- the exchanged merge as a list

-- What is left without the record at a place.
without : ℕ → List Row → List Row
without k [] = []
without zero (r ∷ l) = l
without (suc k) (r ∷ l) = r ∷ without k l

-- A record put behind the first k.
behind : ℕ → Row → List Row → List Row
behind zero r l = r ∷ l
behind (suc k) r [] = r ∷ []
behind (suc k) r (s ∷ l) = s ∷ behind k r l

without-length : (k : ℕ) (l : List Row) → k < length l → suc (length (without k l)) ≡ length l
unfolding without
without-length k [] h = absurd (omega arith)
without-length zero (r ∷ l) h = refl
without-length (suc k) (r ∷ l) h = ap suc (without-length k l (omega arith))

behind-length : (k : ℕ) (r : Row) (l : List Row) → length (behind k r l) ≡ suc (length l)
unfolding behind
behind-length zero r l = refl
behind-length (suc k) r [] = refl
behind-length (suc k) r (s ∷ l) = ap suc (behind-length k r l)

without-before : (k : ℕ) (l : List Row) (i : ℕ) → i < k → get_or (without k l) i no_row ≡ get_or l i no_row
unfolding without
without-before k [] i h = refl
without-before zero (r ∷ l) i h = absurd (omega arith)
without-before (suc k) (r ∷ l) zero h = refl
without-before (suc k) (r ∷ l) (suc i) h = without-before k l i (omega arith)

without-after : (k : ℕ) (l : List Row) (i : ℕ) → k ≤ i → get_or (without k l) i no_row ≡ get_or l (suc i) no_row
unfolding without
without-after k [] i h = refl
without-after zero (r ∷ l) i h = refl
without-after (suc k) (r ∷ l) zero h = absurd (omega arith)
without-after (suc k) (r ∷ l) (suc i) h = without-after k l i (omega arith)

module _ (r : Row) where
  behind-before : (k : ℕ) (l : List Row) (i : ℕ) → k ≤ length l → i < k → get_or (behind k r l) i no_row ≡ get_or l i no_row
  unfolding behind
  behind-before zero l i h k = absurd (omega arith)
  behind-before (suc k) [] i h m = absurd (omega arith)
  behind-before (suc k) (s ∷ l) zero h m = refl
  behind-before (suc k) (s ∷ l) (suc i) h m = behind-before k l i (omega arith) (omega arith)

  behind-here : (k : ℕ) (l : List Row) → k ≤ length l → get_or (behind k r l) k no_row ≡ r
  unfolding behind
  behind-here zero l h = refl
  behind-here (suc k) [] h = absurd (omega arith)
  behind-here (suc k) (s ∷ l) h = behind-here k l (omega arith)

  behind-after : (k : ℕ) (l : List Row) (i : ℕ) → k ≤ length l → k ≤ i → get_or (behind k r l) (suc i) no_row ≡ get_or l i no_row
  unfolding behind
  behind-after zero l i h m = refl
  behind-after (suc k) [] i h m = absurd (omega arith)
  behind-after (suc k) (s ∷ l) zero h m = absurd (omega arith)
  behind-after (suc k) (s ∷ l) (suc i) h m = behind-after k l i (omega arith) (omega arith)

-- ---- from the first record on

up-front : (y : ℕ) (l : List Row) → y < length l → get_or l y no_row ∷ without y l ≡ exchanged true 0 y l
up-front y l h = table_of (length l) (λ i. get_or l (moved_up 0 y i) no_row) (get_or l y no_row ∷ without y l) no_row (without-length y l h) (λ i k. at i)
  where
    next : (i : ℕ) → Dec (i < y) → get_or (without y l) i no_row ≡ get_or l (moved_up 0 y (suc i)) no_row
    next i (yes k) =
        let one : i ≡ suc i - 1 = omega arith in
        without-before y l i k ∙ ap (λ (j : ℕ). get_or l j no_row) (one ∙ up-passed 0 y (suc i) (omega arith) (λ z. omega arith) (omega arith))
    next i (no k) = without-after y l i (omega arith) ∙ ap (λ (j : ℕ). get_or l j no_row) (up-behind 0 y (suc i) (omega arith) (λ z. omega arith) (omega arith))

    at : (i : ℕ) → get_or (get_or l y no_row ∷ without y l) i no_row ≡ get_or l (moved_up 0 y i) no_row
    at zero = ap (λ (j : ℕ). get_or l j no_row) (up_first 0 y 0 (omega arith) refl)
    at (suc i) = next i (dec_lt i y)

down-front : (y : ℕ) (r : Row) (l : List Row) → y ≤ length l → behind y r l ≡ exchanged false 0 y (r ∷ l)
down-front y r l h = table_of (suc (length l)) (λ i. get_or (r ∷ l) (moved_down 0 y i) no_row) (behind y r l) no_row (behind-length y r l) (λ i k. at i (dec_lt i y) (ℕ_discrete i y))
  where
    later : (i : ℕ) → y < i → get_or (behind y r l) i no_row ≡ get_or (r ∷ l) i no_row
    later zero k = absurd (omega arith)
    later (suc i) k = behind-after r y l i h (omega arith)

    at : (i : ℕ) → Dec (i < y) → Dec (i ≡ y) → get_or (behind y r l) i no_row ≡ get_or (r ∷ l) (moved_down 0 y i) no_row
    at i (yes k) e = behind-before r y l i h k ∙ ap (λ (j : ℕ). get_or (r ∷ l) j no_row) (sym (add-one i) ∙ down-passed 0 y i (omega arith) k)
    at i (no k) (yes e) =
        ap (λ (j : ℕ). get_or (behind y r l) j no_row) e
        ∙ behind-here r y l h
        ∙ ap (λ (j : ℕ). get_or (r ∷ l) j no_row) (down-last 0 y i (omega arith) (omega arith) e)
    at i (no k) (no d) = later i (omega arith) ∙ ap (λ (j : ℕ). get_or (r ∷ l) j no_row) (down-behind 0 y i (omega arith) (omega arith) d)

-- ---- behind a record

moved-behind : (up : Bool) (x y i : ℕ) → moved up (suc x) (suc y) (suc i) ≡ suc (moved up x y i)
moved-behind up x y i = go up (dec_lt i x)
  where
    at_up : x ≤ i → Dec (i ≡ x) → Dec (y < i) → moved_up (suc x) (suc y) (suc i) ≡ suc (moved_up x y i)
    at_up h (yes e) k = sym (up_first (suc x) (suc y) (suc i) (omega arith) (omega arith)) ∙ ap suc (up_first x y i h e)
    at_up h (no d) (yes k) = sym (up-behind (suc x) (suc y) (suc i) (omega arith) (λ z. d (omega arith)) (omega arith)) ∙ ap suc (up-behind x y i h d k)
    at_up h (no d) (no k) =
        let one : suc i - 1 ≡ suc (i - 1) = omega arith in
        sym (up-passed (suc x) (suc y) (suc i) (omega arith) (λ z. d (omega arith)) (omega arith)) ∙ one ∙ ap suc (up-passed x y i h d (omega arith))

    at-down : x ≤ i → Dec (i < y) → Dec (i ≡ y) → moved_down (suc x) (suc y) (suc i) ≡ suc (moved_down x y i)
    at-down h (yes k) e =
        let one : suc i + 1 ≡ suc (i + 1) = omega arith in
        sym (down-passed (suc x) (suc y) (suc i) (omega arith) (omega arith)) ∙ one ∙ ap suc (down-passed x y i h k)
    at-down h (no k) (yes e) = sym (down-last (suc x) (suc y) (suc i) (omega arith) (omega arith) (omega arith)) ∙ ap suc (down-last x y i h (omega arith) e)
    at-down h (no k) (no d) = sym (down-behind (suc x) (suc y) (suc i) (omega arith) (omega arith) (λ z. d (omega arith))) ∙ ap suc (down-behind x y i h (omega arith) d)

    go : (up : Bool) → Dec (i < x) → moved up (suc x) (suc y) (suc i) ≡ suc (moved up x y i)
    go up (yes h) = sym (before-both (suc x) (suc y) (suc i) up (omega arith)) ∙ ap suc (before-both x y i up h)
    go true (no h) = at_up (omega arith) (ℕ_discrete i x) (dec_lt y i)
    go false (no h) = at-down (omega arith) (dec_lt i y) (ℕ_discrete i y)

exchanged-behind : (up : Bool) (x y : ℕ) (r : Row) (l : List Row) → r ∷ exchanged up x y l ≡ exchanged up (suc x) (suc y) (r ∷ l)
exchanged-behind up x y r l =
    ap₂ (λ (s : Row) (k : List Row). s ∷ k)
    (ap (λ (j : ℕ). get_or (r ∷ l) j no_row) (before-both (suc x) (suc y) 0 up (omega arith)))
    (table-ext (length l) (λ i. get_or (r ∷ l) (moved up (suc x) (suc y) (suc i)) no_row) (λ i. get_or l (moved up x y i) no_row)
    (λ i. ap (λ (j : ℕ). get_or (r ∷ l) j no_row) (sym (moved-behind up x y i))))

-- ---- one neighbour after another

module _ (bound : ℕ) where
  abbrev Pass : Row → Row → Type 0
  Pass r s = MayPass (clocks bound) r.logged s.logged

  raise : (y : ℕ) (l : List Row) → y < length l → ((z : ℕ) → z < y → Pass (get_or l z no_row) (get_or l y no_row)) → Exchanges Pass l (get_or l y no_row ∷ without y l)
  unfolding without
  raise y [] h f = absurd (omega arith)
  raise zero (r ∷ l) h f = still
  raise (suc y) (r ∷ l) h f = chain (under r (raise y l (omega arith) (λ z k. f (suc z) (omega arith)))) (two (f 0 (omega arith)))

  lower : (y : ℕ) (r : Row) (l : List Row) → y ≤ length l → ((z : ℕ) → z < y → Pass r (get_or l z no_row)) → Exchanges Pass (r ∷ l) (behind y r l)
  unfolding behind
  lower zero r l h f = still
  lower (suc y) r [] h f = absurd (omega arith)
  lower (suc y) r (s ∷ l) h f = chain (two (f 0 (omega arith))) (under s (lower y r l (omega arith) (λ z k. f (suc z) (omega arith))))

  raised : (x y : ℕ) (l : List Row) → x < y → y < length l → ((z : ℕ) → x ≤ z → z < y → Pass (get_or l z no_row) (get_or l y no_row)) → Exchanges Pass l (exchanged true x y l)
  raised x y [] a b f = absurd (omega arith)
  raised zero y (r ∷ l) a b f = rw (← up-front y (r ∷ l) b) (raise y (r ∷ l) b (λ z k. f z (omega arith) k))
  raised (suc x) zero (r ∷ l) a b f = absurd (omega arith)
  raised (suc x) (suc y) (r ∷ l) a b f =
      rw (← exchanged-behind true x y r l) (under r (raised x y l (omega arith) (omega arith) (λ z h k. f (suc z) (omega arith) (omega arith))))

  lowered : (x y : ℕ) (l : List Row) → x < y → y < length l → ((z : ℕ) → x < z → z ≤ y → Pass (get_or l x no_row) (get_or l z no_row)) → Exchanges Pass l (exchanged false x y l)
  lowered x y [] a b f = absurd (omega arith)
  lowered zero y (r ∷ l) a b f = rw (← down-front y r l (omega arith)) (lower y r l (omega arith) (λ z k. f (suc z) (omega arith) (omega arith)))
  lowered (suc x) zero (r ∷ l) a b f = absurd (omega arith)
  lowered (suc x) (suc y) (r ∷ l) a b f =
      rw (← exchanged-behind false x y r l) (under r (lowered x y l (omega arith) (omega arith) (λ z h k. f (suc z) (omega arith) (omega arith))))

  -- ---- by the test

  each-passes : (test : ℕ → Bool) (a k j : ℕ) → all test (from a k) ≡ true → a ≤ j → j < a + k → test j ≡ true
  each-passes test a k j e l u = go (test j) refl
    where
      go : (b : Bool) → test j ≡ b → b ≡ true
      go true i = refl
      go false i = absurd (true≢false (sym e ∙ all-false test a k j l u i))

  passing : (m n : ℕ) (b : Bool) → not (eqb m n) && b ≡ true → (m ≢ n) × T b
  passing m n true e = ((λ s. true≢false (sym e ∙ ap (λ (c : Bool). not c && true) (eq-eqb m n s))), tt)
  passing m n false e = absurd (go (eqb m n) e)
    where
      go : (c : Bool) → not c && false ≡ true → ⊥
      go true i = true≢false (sym i)
      go false i = true≢false (sym i)

  by-neighbours : (rows : List Row) (up : Bool) (x y : ℕ) → x < y → y < length rows → allowed bound rows up x y ≡ true → Exchanges Pass rows (exchanged up x y rows)
  by-neighbours rows true x y a b e =
      raised x y rows a b (λ z h k. passing (get_or rows z no_row).logged.log (get_or rows y no_row).logged.log _
      (each-passes (λ i. may_pass bound true (get_or rows y no_row) (get_or rows i no_row)) x (y - x) z e h (omega arith)))
  by-neighbours rows false x y a b e =
      lowered x y rows a b (λ z h k.
      let p = passing (get_or rows z no_row).logged.log (get_or rows x no_row).logged.log _
      (each-passes (λ i. may_pass bound false (get_or rows x no_row) (get_or rows i no_row)) (suc x) (y - x) z e h (omega arith)) in
      ((λ s. p.0 (sym s)), p.1))

pub exchange-allowed : ExchangeAllowed
exchange-allowed bound rows up x y a b e t =
    still-allowed (clocks bound) (merged rows) (merged (exchanged up x y rows))
    (exchanges-map (λ r. r.logged) (MayPass (clocks bound)) (by-neighbours bound rows up x y a b e)) t
