-- Entries in common, one after another; and the entries that a run has written are those of its history. Assumes nothing.
use Rattle.std.specs.Prelude.{◌≡◌, refl, Bool, true, false, cond, ◌&&◌, List, [], ◌∷◌, ◌++◌, ℕ, zero, suc, ◌+◌, ◌≤◌, ◌<◌, eqb, length, None, Some}
use Rattle.std.proofs.Common.{sym, ap, ◌∙◌, arith}
use Rattle.std.proofs.Math.Decide.{dec_lt}
use Rattle.rules.specs.State.{Write}
use Rattle.any_list.specs.Arrays.{table}
use Rattle.any_list.specs.Tables.{table_of, table-length}
use Rattle.step_parts.specs.declared.Write as P
use Rattle.step_parts.specs.Hold.{hold_write, pack_write}
use Rattle.run_lists.specs.EventList.{history_bytes}
use Rattle.run_lists.specs.Written.{entry_read}
use Rattle.run_lists.specs.Entries.{entry_at, no_write}
use Rattle.run_difference.specs.Difference.{same_write, one_more, common, entry_in, differs_at, difference, entries}

-- ---- in common

-- The first i entries are the same.
pub record Shared (f g : ℕ → Write) (n m i : ℕ) : Type 0 where
  pub low : i ≤ n
  pub low' : i ≤ m
  pub same : (k : ℕ) → k < i → same_write (f k) (g k) ≡ true

pub shared-none : (f g : ℕ → Write) (n m : ℕ) → Shared f g n m 0
shared-none f g n m = record { low = omega arith; low' = omega arith; same = λ k h. absurd (omega arith) }

pub shared-more : {f g : ℕ → Write} {n m i : ℕ} → Shared f g n m i → i < n → i < m → same_write (f i) (g i) ≡ true → Shared f g n m (i + 1)
shared-more {f} {g} {n} {m} {i} s h k e = record { low = omega arith; low' = omega arith; same = λ j l. go j l (dec_lt j i) }
  where
    go : (j : ℕ) → j < i + 1 → Dec (j < i) → same_write (f j) (g j) ≡ true
    go j l (yes b) = s.same j b
    go j l (no b) = let z : j ≡ i = omega arith in ap (λ (x : ℕ). same_write (f x) (g x)) z ∙ e

-- And no more than those.
pub shared-all : (n m i : ℕ) (f g : ℕ → Write) → Shared f g n m i → (i < n → i < m → same_write (f i) (g i) ≡ false) → i ≡ common (table n f) (table m g)
unfolding common
shared-all zero m i f g s d = let h = s.low in omega arith
shared-all (suc n) zero i f g s d = let h = s.low' in omega arith
shared-all (suc n) (suc m) zero f g s d = sym (ap (λ (b : Bool). one_more b (common (table n (λ k. f (suc k))) (table m (λ k. g (suc k))))) (d (omega arith) (omega arith)))
shared-all (suc n) (suc m) (suc i) f g s d =
    let low = s.low in
    let low' = s.low' in
    let rest : Shared (λ k. f (suc k)) (λ k. g (suc k)) n m i = record { low = omega arith; low' = omega arith; same = λ k h. s.same (suc k) (omega arith) } in
    ap suc (shared-all n m i (λ k. f (suc k)) (λ k. g (suc k)) rest (λ h k. d (omega arith) (omega arith)))
    ∙ ap (λ (b : Bool). one_more b (common (table n (λ k. f (suc k))) (table m (λ k. g (suc k))))) (sym (s.same 0 (omega arith)))

-- ---- written entries

-- What a run has written behind its answers says its history.
pub written : (ws : List Write) (l : List ℕ) → entries (history_bytes ws ++ l) (length ws) ≡ ws
written ws l = sym (table_of (length ws) (entry_at (history_bytes ws ++ l)) ws no_write refl (λ i h. sym (entry_read ws l i h)))

-- ---- one entry, or none

in-table : (n : ℕ) (f : ℕ → Write) (i : ℕ) → i < n → entry_in (table n f) i ≡ Some (pack_write (f i))
in-table zero f i h = absurd (omega arith)
in-table (suc n) f zero h = refl
in-table (suc n) f (suc i) h = in-table n (λ k. f (suc k)) i (omega arith)

past-table : (n : ℕ) (f : ℕ → Write) (i : ℕ) → n ≤ i → entry_in (table n f) i ≡ None
past-table zero f i h = refl
past-table (suc n) f zero h = absurd (omega arith)
past-table (suc n) f (suc i) h = past-table n (λ k. f (suc k)) i (omega arith)

pub entry-inside : {a : P.Write} (part : List ℕ) (n i : ℕ) → hold_write a ≡ entry_at part i → i < n → Some a ≡ entry_in (entries part n) i
entry-inside part n i e h = ap (λ (w : Write). Some (pack_write w)) e ∙ sym (in-table n (entry_at part) i h)

pub entry-beyond : (part : List ℕ) (n i : ℕ) → n ≤ i → None ≡ entry_in (entries part n) i
entry-beyond part n i h = sym (past-table n (entry_at part) i h)

-- ---- the difference, by the test that the code makes

pub common-le : (ws vs : List Write) → common ws vs ≤ length ws
unfolding common
common-le [] vs = omega arith
common-le (w ∷ ws) [] = omega arith
common-le (w ∷ ws) (v ∷ vs) = go (same_write w v) (common-le ws vs)
  where
    go : (b : Bool) → common ws vs ≤ length ws → one_more b (common ws vs) ≤ suc (length ws)
    go true h = omega arith
    go false h = omega arith

pub parted : (one : List ℕ) (n : ℕ) (other : List ℕ) (m i : ℕ) → i ≡ common (entries one n) (entries other m) → (b : Bool) → (eqb i n && eqb i m) ≡ b
    → difference (entries one n) (entries other m) ≡ cond b None (Some (differs_at i (entries one n) (entries other m)))
unfolding difference
parted one n other m i is b test = rw (← is, table-length n (entry_at one), table-length m (entry_at other), test)
