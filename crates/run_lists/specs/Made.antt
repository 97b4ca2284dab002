-- An event list that was made of steps is good, and says them. Assumes nothing.
use Rattle.std.specs.Prelude.{◌≡◌, refl, List, [], ◌∷◌, ◌++◌, ℕ, zero, suc, ◌+◌, ◌*◌, ◌%◌, ◌≤◌, ◌<◌, get_or}
use Rattle.std.proofs.Common.{sym, ap₂, ◌∙◌, le_of_suc-le-suc, length-append, get_or-append-add}
use Rattle.std.proofs.Math.Path.{ap}
use native.Mathlib.Omega.{arith}
use Rattle.std.proofs.Math.ListN.{length}
use borrow.Author.Tests.{eq-eqb, le-leb}
use Rattle.rules.specs.Limits.{most_nodes}
use Rattle.rules.specs.Range.{within}
use Rattle.rules.specs.Step.{Event}
use Rattle.rules_laws.specs.All.{All}
use Rattle.any_list.specs.Tables.{table_of}
use Rattle.run_lists.specs.EventList.{trailer_length, longest, byte_at, number_at, trailer_at, first_record, record_count, node_count, refusal, event_at, record_at, records}
use Rattle.run_lists.specs.Listed.{flat, trailer_bytes, list_of}

-- Kind and node fit a byte.
abbrev pub Small : Event → Type 0
Small e = (e.kind < 256) × (e.node < 256)

pub flat-both : (a b : List Event) → flat (a ++ b) ≡ flat a ++ flat b
unfolding flat
flat-both [] b = refl
flat-both (e ∷ a) b = ap (λ (l : List ℕ). e.kind % 256 ∷ e.node % 256 ∷ l) (flat-both a b)

pub flat-length : (es : List Event) → length (flat es) ≡ 2 * length es
unfolding flat
flat-length [] = omega arith
flat-length (e ∷ es) = let z = flat-length es in omega arith

-- Where there is no step.
abbrev pub no_step : Event
no_step = record { kind = 0; node = 0 }

step-said : (es : List Event) (t : List ℕ) (i : ℕ) → i < length es → All Small es → get_or es i no_step ≡ event_at (flat es ++ t) (2 * i)
unfolding flat
step-said [] t i h small = absurd (omega arith)
step-said (e ∷ es) t zero h small =
    let k = small.0.0 in
    let n = small.0.1 in
    let kind : e.kind ≡ e.kind % 256 = omega arith in
    let node : e.node ≡ e.node % 256 = omega arith in
    ap₂ (λ (a b : ℕ). record { kind = a; node = b }) kind node
step-said (e ∷ es) t (suc i) h small =
    let one : 2 * suc i ≡ suc (suc (2 * i)) = omega arith in
    let two : 2 * suc i + 1 ≡ suc (suc (2 * i + 1)) = omega arith in
    step-said es t i (le_of_suc-le-suc h) small.1 ∙ rw (two, one)

module _ (count : ℕ) (es : List Event) (low : 1 ≤ count) (high : count ≤ 8) (few : length es ≤ 32762) where
  pub list_length : length (list_of count es) ≡ 2 * length es + 12
  list_length = length-append (flat es) (trailer_bytes (length es) count) ∙ (let z = flat-length es in omega arith)

  place : trailer_at (list_of count es) ≡ length (flat es)
  place = let z = list_length in let y = flat-length es in omega arith

  byte : (k : ℕ) → byte_at (list_of count es) (trailer_at (list_of count es) + k) ≡ get_or (trailer_bytes (length es) count) k 0
  byte k = ap (λ (x : ℕ). byte_at (list_of count es) (x + k)) place ∙ get_or-append-add (flat es) (trailer_bytes (length es) count) k 0

  byte-from : (j k : ℕ) → byte_at (list_of count es) (trailer_at (list_of count es) + j + k) ≡ get_or (trailer_bytes (length es) count) (j + k) 0
  byte-from j k = let z : trailer_at (list_of count es) + j + k ≡ trailer_at (list_of count es) + (j + k) = omega arith in ap (byte_at (list_of count es)) z ∙ byte (j + k)

  pub list-first : first_record (list_of count es) ≡ 0
  unfolding number_at
  list-first =
      let none : byte_at (list_of count es) (trailer_at (list_of count es)) ≡ 0 = ap (byte_at (list_of count es)) (omega-none) ∙ byte 0 in
      rw (none, byte 1, byte 2, byte 3)
    where
      omega-none : trailer_at (list_of count es) ≡ trailer_at (list_of count es) + 0
      omega-none = omega arith

  pub list_count : record_count (list_of count es) ≡ length es
  unfolding number_at
  list_count = rw (byte 4, byte-from 4 1, byte-from 4 2, byte-from 4 3) (omega arith)

  pub list-nodes : node_count (list_of count es) ≡ count
  list-nodes = byte 8

  pub list-good : refusal (list_of count es) ≡ 0
  unfolding refusal within
  list-good =
      let n = list_length in
      rw (
        le-leb trailer_length (length (list_of count es)) (omega arith),
        le-leb (length (list_of count es)) longest (omega arith),
        byte 10,
        byte 11,
        byte 9,
        list-nodes,
        le-leb 1 count low,
        le-leb count most_nodes high,
        list-first,
        list_count,
        eq-eqb (0 + 2 * length es + trailer_length) (length (list_of count es)) (omega arith),
      )

  pub list-records : All Small es → records (list_of count es) ≡ es
  list-records small =
      rw (list_count) (sym (table_of (length es) (record_at (list_of count es)) es no_step refl (λ i h.
      let z : first_record (list_of count es) + 2 * i ≡ 2 * i = (let f = list-first in omega arith) in
      step-said es (trailer_bytes (length es) count) i h small ∙ ap (event_at (list_of count es)) (sym z))))
