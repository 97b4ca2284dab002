-- Where no two records are in doubt, every merge of the same logs that the clocks allow is made from the one at hand by exchanges of independent neighbours:
-- what one merge takes next can be brought to the front of the other. Assumes nothing.
use Rattle.std.specs.Prelude.{◌≡◌, ◌≢◌, Bool, ◌||◌, List, [], ◌∷◌, ℕ}
use Rattle.std.proofs.Math.Path.{refl}
use Rattle.std.proofs.Common.{sym, ap, ◌∙◌, subst, eqb→eq, eq-eqb}
use Rattle.std.proofs.Math.Bool.{true, false, not}
use Rattle.std.proofs.Math.Dec.{T, eqb}
use Rattle.rules_laws.specs.All.{All}
use Rattle.rules_laws.specs.Lists.{all-each}
use Rattle.rules_exchange.specs.Independent.{independent}
use Rattle.merge_verdict.specs.Verdict.{Exchanges, Independent}
use Rattle.merge_verdict.specs.Pairs.{kept}
use Rattle.merge_verdict.specs.Clocks.{Logged, events, of_log, SameLogs, Timely, fixed, NoDoubt, ClockVerdict}
use Rattle.merge_verdict.specs.Kept.{not-nil, kept_same, kept-swap, all-behind, all-only}
use Rattle.merge_verdict.specs.Chains.{still, two, chain, under, exchanges-map}
use Rattle.merge_verdict.proofs.Exact.{by-exchanges}

self : (n : ℕ) → eqb n n ≡ true
self n = eq-eqb n n refl

-- ---- what holds of all records holds of all logs, and back

-- What holds of the records of each log holds of every record.
all-of-logs : (P : Logged → Type 0) (l : List Logged) → ((n : ℕ) → All P (of_log n l)) → All P l
all-of-logs P [] h = tt
all-of-logs P (x ∷ l) h = (
  (subst (λ b. All P (kept b x (of_log x.log l))) (self x.log) (h x.log)).0,
  all-of-logs P l (λ n. all-behind P (eqb n x.log) x (of_log n l) (h n)),
)

same-logs-all : (P : Logged → Type 0) (es fs : List Logged) → SameLogs es fs → All P es → All P fs
same-logs-all P es fs s h = all-of-logs P fs (λ n. subst (All P) (s n) (all-only P (λ x. eqb n x.log) es h))

-- ---- a record is brought to the front of a merge that the clocks allow

module _ (count : ℕ) (may : Logged → Logged → Bool) where
  abbrev Free : Logged → Logged → Type 0
  Free x y = Independent count x.event y.event

  -- A record of another log that stands before e where it may: e may pass it.
  abbrev Passable : Logged → Logged → Type 0
  Passable e x = e.log ≢ x.log → T (may x e) → Free e x

  record Brought (e : Logged) (l : List Logged) : Type 0 where
    rest : List Logged
    moves : Exchanges Free (e ∷ rest) l
    logs : (n : ℕ) → of_log n l ≡ kept (eqb n e.log) e (of_log n rest)
    timely : Timely may rest

  -- All that is left was there.
  left-all : (P : Logged → Type 0) (e : Logged) (l rest : List Logged) → ((n : ℕ) → of_log n l ≡ kept (eqb n e.log) e (of_log n rest)) → All P l → All P rest
  left-all P e l rest s h =
      all-of-logs P rest (λ n. all-behind P (eqb n e.log) e (of_log n rest) (subst (All P) (s n) (all-only P (λ x. eqb n x.log) l h)))

  bring : (e : Logged) (tail l : List Logged) → of_log e.log l ≡ e ∷ tail → All (Passable e) l → Timely may l → Brought e l
  bring e tail [] h f t = not-nil h
  bring e tail (x ∷ l) h f t = go (eqb e.log x.log) refl h (bring e tail l)
    where
      go : (b : Bool) → eqb e.log x.log ≡ b → kept b x (of_log e.log l) ≡ e ∷ tail
          → (of_log e.log l ≡ e ∷ tail → All (Passable e) l → Timely may l → Brought e l) → Brought e (x ∷ l)
      go true i k ih = let u : x ≡ e = cc in record {
        rest = l;
        moves = rw u still;
        logs = λ n. ap (λ z. kept (eqb n z.log) z (of_log n l)) u;
        timely = t.1;
      }
      go false i k ih =
          let p = ih k f.1 t.1 in
          let other : e.log ≢ x.log = λ w. subst T (sym (eq-eqb e.log x.log w) ∙ i) tt in
          let before : T (may x e) = (subst (All (λ y. T (may x y))) k (all-only (λ y. T (may x y)) (λ y. eqb e.log y.log) l t.0)).0 in
          record {
            rest = x ∷ p.rest;
            moves = chain (two (f.0 other before)) (under x p.moves);
            logs = λ n. ap (kept (eqb n x.log) x) (p.logs n)
                ∙ kept-swap (eqb n x.log) (eqb n e.log) x e (of_log n p.rest) (λ a b. other (sym (eqb→eq n e.log b) ∙ eqb→eq n x.log a));
            timely = (left-all (λ y. T (may x y)) e l p.rest p.logs t.0, p.timely);
          }

  passable : (e x : Logged) → T (fixed count may e x) → Passable e x
  unfolding fixed
  passable e x t other before = go (eqb e.log x.log) refl (independent count e.event x.event) (may x e) t before
    where
      go : (a : Bool) → eqb e.log x.log ≡ a → (b c : Bool) → T (a || b || not c) → T c → T b
      go true i b c s u = absurd (other (eqb→eq e.log x.log (rw i tt)))
      go false i true c s u = tt
      go false i false true s u = s
      go false i false false s u = u

  every-merge : (es fs : List Logged) → NoDoubt count may es → SameLogs es fs → Timely may fs → Exchanges Free es fs
  every-merge [] [] h s t = still
  every-merge [] (f ∷ fs) h s t = not-nil (rw (self f.log) at (s f.log))
  every-merge (e ∷ es) fs h s t =
      let own : of_log e.log fs ≡ e ∷ of_log e.log es = sym (s e.log) ∙ ap (λ b. kept b e (of_log e.log es)) (self e.log) in
      let none : Passable e e = λ other before. absurd (other refl) in
      let all : All (Passable e) fs = same-logs-all (Passable e) (e ∷ es) fs s (none, all-each (passable e) es h.0) in
      let p = bring e (of_log e.log es) fs own all t in
      chain (under e (every-merge es p.rest h.1 (λ n. kept_same (eqb n e.log) e (of_log n es) (of_log n p.rest) (s n ∙ p.logs n)) p.timely)) p.moves

pub clock-verdict : ClockVerdict
clock-verdict s may es r h fs k t =
    by-exchanges s (events es) (events fs) r (exchanges-map (λ x. x.event) (Independent s.count) (every-merge s.count may es fs h k t))
