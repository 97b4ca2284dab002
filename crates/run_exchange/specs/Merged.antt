-- Two merges of the same logs, in bytes (examples/merge-a.hex and merge-b.hex): what `Audited` asks of them holds, and so they run the same: `proofs/Merged`. Assumes nothing.
use Rattle.std.specs.Prelude.{refl, List, [], ◌∷◌, ℕ}
use Rattle.rules.specs.Range.{within}
use Rattle.rules_laws.specs.Computed.{computed}
use Rattle.rules_exchange.specs.Independent.{listed, exists, independent}
use Rattle.run_lists.specs.EventList.{number_at, refusal}
use Rattle.run_exchange.specs.SameRun.{Remerged}

-- First record at 0, 12 records, 2 nodes.
abbrev trailer : List ℕ
trailer = 0 ∷ 0 ∷ 0 ∷ 0 ∷ 12 ∷ 0 ∷ 0 ∷ 0 ∷ 2 ∷ 0 ∷ 77 ∷ 65 ∷ []

-- Controller 2's entries, Learn and Send write, are the 10th and the 11th.
abbrev pub late : List ℕ
late = 1 ∷ 1 ∷ 1 ∷ 2 ∷ 8 ∷ 1 ∷ 8 ∷ 2 ∷ 3 ∷ 1 ∷ 4 ∷ 1 ∷ 10 ∷ 1 ∷ 5 ∷ 1 ∷ 6 ∷ 1 ∷ 3 ∷ 2 ∷ 6 ∷ 2 ∷ 11 ∷ 1 ∷ trailer

-- They are the 5th and the 6th.
abbrev pub early : List ℕ
early = 1 ∷ 1 ∷ 1 ∷ 2 ∷ 8 ∷ 1 ∷ 8 ∷ 2 ∷ 3 ∷ 2 ∷ 6 ∷ 2 ∷ 3 ∷ 1 ∷ 4 ∷ 1 ∷ 10 ∷ 1 ∷ 5 ∷ 1 ∷ 6 ∷ 1 ∷ 11 ∷ 1 ∷ trailer

-- Each of the two moves past five others.
abbrev pub exchanges : List ℕ
exchanges = 8 ∷ 7 ∷ 6 ∷ 5 ∷ 4 ∷ 9 ∷ 8 ∷ 7 ∷ 6 ∷ 5 ∷ []

pub remerged : Remerged late early exchanges
unfolding computed refusal number_at within listed exists independent
remerged = record {
  accepted = refl;
  accepted' = refl;
  nodes = refl;
  exchanged = refl;
  allowed = (tt, (tt, (tt, (tt, (tt, (tt, (tt, (tt, (tt, (tt, tt))))))))));
}
