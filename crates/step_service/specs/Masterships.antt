-- Masterships in order, changed place by place: joined, left, handed over. Assumes nothing.
use Rattle.std.specs.Prelude.{◌≡◌, ◌≢◌, true, not, ℕ, zero, suc, ◌+◌, ◌-◌, ◌≤◌, ◌<◌, ltb, get_or, drop, take}
use Rattle.std.proofs.Math.Path.{refl, sym, ap}
use Rattle.std.proofs.Common.{◌∙◌, arith, length-append, eq-eqb, ne_eqb, lt-ltb, le-ltb}
use Rattle.std.proofs.Math.Bool.{false}
use mathlib.Core.List.{List, [], ◌∷◌, ◌++◌}
use Rattle.std.proofs.Math.ListN.{length, set}
use Rattle.rules.specs.Limits.{most_backups}
use Rattle.rules.specs.Queues.{push, first, rest, empty, has}
use Rattle.rules.specs.Ids.{named}
use Rattle.rules.specs.Rules.{vacant, joined, left, hands_over}
use Rattle.any_list.specs.Arrays.{padded}
use Rattle.any_list.specs.Padded.{padded-push, padded-pop}
use Rattle.step_parts.specs.Hold.{hold_mastership, pack_mastership, as_is}
use Rattle.step_parts.specs.Ordered.{OrderedMastership}
use Rattle.step_parts.specs.declared.Mastership.{Mastership}
use Rattle.step_service.specs.Asks.{handed_over, without_backup}

module _ (m : Mastership) (o : OrderedMastership m) where
  pub backups-len : m.len ≡ length (hold_mastership m).backups
  backups-len = ap (λ (x : Mastership). x.len) (sym o.same)

  pub joined-backup : (n : ℕ) → m.master ≢ 0 → length (hold_mastership m).backups < most_backups
      → record { term = m.term; master = m.master; backups = set m.backups m.len n; len = m.len + 1 } ≡ pack_mastership (joined n (hold_mastership m))
  unfolding joined vacant push
  joined-backup n h k = simp (ne_eqb m.master 0 h) λ i. record {
    term = m.term;
    master = m.master;
    backups = (ap (λ (x : Mastership). set x.backups x.len n) (sym o.same) ∙ padded-push 0 as_is most_backups (hold_mastership m).backups n k) i;
    len = (ap (λ (x : ℕ). x + 1) backups-len ∙ sym (length-append (hold_mastership m).backups (n ∷ []))) i;
  }

  -- the head of the backups, and the others moved up
  pub handed-over : 1 ≤ m.len
      → record { term = record { 0 = m.term.0 + 1 }; master = get_or m.backups 0 0; backups = drop 1 m.backups ++ (0 ∷ []); len = m.len - 1 } ≡ pack_mastership (handed_over (hold_mastership m))
  unfolding first rest
  handed-over h = go (hold_mastership m).backups refl o.short (let e = backups-len in omega arith)
    where
      front : (l : List ℕ) → (hold_mastership m).backups ≡ l → m.backups ≡ padded 0 as_is most_backups l
      front l e = ap (λ (x : Mastership). x.backups) (sym o.same) ∙ ap (padded 0 as_is most_backups) e

      go : (l : List ℕ) → (hold_mastership m).backups ≡ l → length (hold_mastership m).backups ≤ most_backups → 1 ≤ length (hold_mastership m).backups
          → record { term = record { 0 = m.term.0 + 1 }; master = get_or m.backups 0 0; backups = drop 1 m.backups ++ (0 ∷ []); len = m.len - 1 } ≡ pack_mastership (handed_over (hold_mastership m))
      go [] e s k = let z = ap length e in absurd (omega arith)
      go (x ∷ l) e s k =
          let f = front (x ∷ l) e in
          let z : length (hold_mastership m).backups ≡ suc (length l) = ap length e in
          let c = backups-len in
          λ i. record {
            term = record { 0 = m.term.0 + 1 };
            master = (ap (λ (t : List ℕ). get_or t 0 0) f ∙ ap (first 0) (sym e)) i;
            backups = (ap (λ (t : List ℕ). drop 1 t ++ (0 ∷ [])) f ∙ padded-pop 0 as_is 6 x l (omega arith) ∙ ap (λ (t : List ℕ). padded 0 as_is most_backups (rest t)) (sym e)) i;
            len = ((let p : m.len - 1 ≡ length l = omega arith in p) ∙ ap (λ (t : List ℕ). length (rest t)) (sym e)) i;
          }

  pub vacated : m.len ≡ 0 → record { term = m.term; master = 0; backups = m.backups; len = m.len } ≡ pack_mastership (record { term = m.term.0; master = 0; backups = [] })
  vacated e = go (hold_mastership m).backups refl
    where
      go : (l : List ℕ) → (hold_mastership m).backups ≡ l → record { term = m.term; master = 0; backups = m.backups; len = m.len } ≡ pack_mastership (record { term = m.term.0; master = 0; backups = [] })
      go (x ∷ l) f = let z = ap length f in let c = backups-len in absurd (omega arith)
      go [] f = λ i. record {
        term = m.term;
        master = 0;
        backups = (ap (λ (x : Mastership). x.backups) (sym o.same) ∙ ap (padded 0 as_is most_backups) f) i;
        len = e i;
      }

-- the length is 0 exactly if none are held
pub some-taken : (n : ℕ) (l : List ℕ) → length l ≡ most_backups → ltb 0 n ≡ not (empty (take n l))
unfolding empty
some-taken n [] e = absurd (omega arith)
some-taken zero (x ∷ l) e = le-ltb 0 0 (omega arith)
some-taken (suc n) (x ∷ l) e = lt-ltb 0 (suc n) (omega arith)

-- ---- Leave, by its tests

pub is-backup : (n : ℕ) (m : Mastership) → named n (hold_mastership m) ≡ true → m.master ≢ n → has n (hold_mastership m).backups ≡ true
unfolding named
is-backup n m e h = simp (ne_eqb m.master n h) at e

module _ (m : Mastership) (o : OrderedMastership m) (n : ℕ) where
  none-held : m.len ≡ 0 → empty (hold_mastership m).backups ≡ true
  unfolding empty
  none-held e = rw e refl

  pub left-vacant : m.master ≡ n → m.len ≡ 0 → record { term = m.term; master = 0; backups = m.backups; len = m.len } ≡ pack_mastership (left n (hold_mastership m))
  unfolding left hands_over
  left-vacant e f = simp (eq-eqb m.master n e, none-held f) (vacated m o f)

  some-held : m.len ≢ 0 → empty (hold_mastership m).backups ≡ false
  unfolding empty
  some-held h = go (hold_mastership m).backups refl
    where
      go : (l : List ℕ) → (hold_mastership m).backups ≡ l → empty l ≡ false
      go [] e = let z = ap length e in let c = backups-len m o in absurd (h (omega arith))
      go (x ∷ l) e = refl

  pub left_over : m.master ≡ n → m.len ≢ 0 → pack_mastership (handed_over (hold_mastership m)) ≡ pack_mastership (left n (hold_mastership m))
  unfolding left hands_over
  left_over e f = simp (eq-eqb m.master n e, some-held f)

  pub left-backup : m.master ≢ n → pack_mastership (without_backup n (hold_mastership m)) ≡ pack_mastership (left n (hold_mastership m))
  unfolding left hands_over
  left-backup h = simp (ne_eqb m.master n h)
