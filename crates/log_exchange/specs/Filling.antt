-- Steps put down as bytes, one after another. Assumes nothing.
use Rattle.std.specs.Prelude.{◌≡◌, Bool, List, [], ◌∷◌, ℕ, ◌+◌, ◌*◌, ◌%◌, ◌≤◌, ◌<◌, get_or, take}
use Rattle.std.proofs.Common.{add-one, arith, take_all}
use Rattle.std.proofs.Math.Seq.{take-suc}
use Rattle.rules.specs.Step.{Event}
use Rattle.any_list.specs.Arrays.{table}
use Rattle.any_list.specs.Tables.{table-get, table-length}
use Rattle.any_text.specs.Put.{Put}
use Rattle.any_text.specs.Puts.{put-none, put_then}
use Rattle.log_read.specs.declared.Record.{Record}
use Rattle.log_records.specs.Rows.{row_at}
use Rattle.log_exchange.specs.Exchange.{moved}
use Rattle.run_lists.specs.Listed.{flat, trailer_bytes, list_of}
use Rattle.run_lists.specs.Made.{no_step, flat-both}

-- The step at place i of the exchanged merge.
abbrev pub step_at : List Record → Bool → ℕ → ℕ → ℕ → Event
step_at l up x y i = (row_at l (moved up x y i)).logged.event

-- The first i of n steps are put down.
pub record Stepped (f : ℕ → Event) (n : ℕ) (before after : List ℕ) (at i : ℕ) : Type 0 where
  pub few : i ≤ n
  pub put : Put before 0 (flat (take i (table n f))) after at
  pub place : at ≡ 2 * i

pub stepped-none : (f : ℕ → Event) (n : ℕ) (before : List ℕ) → Stepped f n before before 0 0
unfolding flat
stepped-none f n before = record { few = omega arith; put = put-none before 0; place = omega arith }

module _ {f : ℕ → Event} {n : ℕ} {before after : List ℕ} {at i : ℕ} (s : Stepped f n before after at i) where
  pub stepped-more : i < n → {m : List ℕ} {j : ℕ} → Put after at ((f i).kind % 256 ∷ (f i).node % 256 ∷ []) m j → Stepped f n before m j (i + 1)
  unfolding flat
  stepped-more h q = record {
    few = omega arith;
    put =
        let z = table-length n f in
        rw (add-one i, take-suc (table n f) i no_step (omega arith), flat-both (take i (table n f)) (get_or (table n f) i no_step ∷ []), table-get n f i no_step h) (put_then s.put q);
    place = let z = s.place in let y = q.place in omega arith;
  }

  pub stepped-all : n ≤ i → Put before 0 (flat (table n f)) after at × (at ≡ 2 * n)
  stepped-all h =
      let z = s.few in
      let y = s.place in
      let w = table-length n f in
      (rw (take_all i (table n f) (omega arith)) at s.put, omega arith)

-- The steps, and the trailer behind them.
pub list_put : (count n : ℕ) (f : ℕ → Event) {l m k : List ℕ} {i j : ℕ} → Put l 0 (flat (table n f)) m i → Put m i (trailer_bytes n count) k j → Put l 0 (list_of count (table n f)) k j
list_put count n f p q = put_then p (rw (table-length n f) q)
