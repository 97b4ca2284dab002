-- Merges that tell wrong programs apart: all that the contracts of `independent`, `compare`, `same_merge` and `report` let be said of them. Assumes nothing.
use Rattle.std.specs.Prelude.{◌≡◌, refl, true, false, List, [], ◌∷◌, ◌++◌, ℕ, replicate, Ok}
use Rattle.any_text.specs.Line.{line}
use Rattle.merge_compare.specs.Compare as C
use Rattle.run_exchange.specs.Merged.{late, early}
use Rattle.merge_text.specs.Words as W
use Rattle.merge_text.specs.Report.{report}
use Rattle.contracts.specs.Contract.{Gives}
use Rattle.contracts.specs.Opened.{compares, reports}
use Rattle.contracts.specs.Calls.{IndependentMay, CompareMay, SameMergeMay, ReportMay}
use Rattle.contracts.specs.Only.{Puts, puts, only-independent, only-compare, only-same-merge, only-report}

-- ---- two steps, of two nodes

-- Given are the node count, kind and node of the one, kind and node of the other.

-- Learn 1 and Send update: for different nodes they are independent, for one they are not.
pub learn-send : Gives IndependentMay (2, 3, 1, 4, 2) true tt
unfolding compares
learn-send = only-independent (2, 3, 1, 4, 2)

pub learn-send-same : Gives IndependentMay (2, 3, 1, 4, 1) false tt
unfolding compares
learn-send-same = only-independent (2, 3, 1, 4, 1)

-- Join 1 and Learn 2; Receive update 1 and Close 2; Join 1 and a kind that is not known.
pub join-learn : Gives IndependentMay (2, 1, 1, 3, 2) false tt
unfolding compares
join-learn = only-independent (2, 1, 1, 3, 2)

pub receive-close : Gives IndependentMay (2, 5, 1, 9, 2) false tt
unfolding compares
receive-close = only-independent (2, 5, 1, 9, 2)

pub join-unknown : Gives IndependentMay (2, 1, 1, 14, 2) false tt
unfolding compares
join-unknown = only-independent (2, 1, 1, 14, 2)

-- ---- two merges, of which one has two records of node 2 five places further down

pub compare_same : Gives CompareMay (late, early) (Ok C.same) tt
unfolding compares
compare_same = only-compare (late, early)

-- ---- two lists: node 1 is master and has sent a write; then Handle write 1 and Shutdown in either order

abbrev before : List ℕ
before = 1 ∷ 1 ∷ 3 ∷ 1 ∷ 8 ∷ 1 ∷ 4 ∷ 1 ∷ 10 ∷ 1 ∷ 5 ∷ 1 ∷ 6 ∷ 1 ∷ []

abbrev trailer : ℕ → List ℕ
trailer count = 0 ∷ 0 ∷ 0 ∷ 0 ∷ count ∷ 0 ∷ 0 ∷ 0 ∷ 2 ∷ 0 ∷ 77 ∷ 65 ∷ []

abbrev handled : List ℕ
handled = before ++ (11 ∷ 1 ∷ 12 ∷ 0 ∷ []) ++ trailer 9

abbrev stopped : List ℕ
stopped = before ++ (12 ∷ 0 ∷ 11 ∷ 1 ∷ []) ++ trailer 9

-- The second list lacks them both.
abbrev ended : List ℕ
ended = before ++ trailer 7

pub compare-order : Gives CompareMay (handled, stopped) (Ok (C.order 7 8 8 7)) tt
unfolding compares
compare-order = only-compare (handled, stopped)

pub compare-first : Gives CompareMay (handled, ended) (Ok (C.only_first 7)) tt
unfolding compares
compare-first = only-compare (handled, ended)

pub compare-second : Gives CompareMay (ended, handled) (Ok (C.only_second 7)) tt
unfolding compares
compare-second = only-compare (ended, handled)

-- Records 8 and 9 of the first list stand at 9 and 8 in the second; a ninth byte stays.
pub same-merge-order : Gives SameMergeMay (handled, stopped, replicate 9 7) 257 (8 ∷ 0 ∷ 9 ∷ 0 ∷ 9 ∷ 0 ∷ 8 ∷ 0 ∷ 7 ∷ [])
unfolding compares
same-merge-order = only-same-merge (handled, stopped, replicate 9 7)

-- "order 8 9 9 8", "writes 1 0" and "differs 1 1 1 0 0"
abbrev reported : List ℕ
reported = line W.order (8 ∷ 9 ∷ 9 ∷ 8 ∷ []) ++ (line W.writes (1 ∷ 0 ∷ []) ++ line W.differs (1 ∷ 1 ∷ 1 ∷ 0 ∷ 0 ∷ []))

order-reported : report handled stopped ≡ reported
unfolding reports
order-reported = refl

pub report-order : (buf : List ℕ) → Puts ReportMay (handled, stopped, buf) reported buf
report-order buf = puts ReportMay (handled, stopped, buf) buf order-reported (only-report (handled, stopped, buf))

-- Two lists in which a node is elected and writes: node 1 in the first, node 2 in the second.
abbrev writes : ℕ → List ℕ
writes n = 1 ∷ n ∷ 3 ∷ n ∷ 8 ∷ n ∷ 4 ∷ n ∷ 10 ∷ n ∷ 5 ∷ n ∷ 6 ∷ n ∷ 11 ∷ n ∷ trailer 8

-- "only first 1", "writes 1 1" and "differs 1 1 1 2 1"
abbrev reported_other : List ℕ
reported_other = line W.only_first (1 ∷ []) ++ (line W.writes (1 ∷ 1 ∷ []) ++ line W.differs (1 ∷ 1 ∷ 1 ∷ 2 ∷ 1 ∷ []))

other-reported : report (writes 1) (writes 2) ≡ reported_other
unfolding reports
other-reported = refl

pub report-other : (buf : List ℕ) → Puts ReportMay (writes 1, writes 2, buf) reported_other buf
report-other buf = puts ReportMay (writes 1, writes 2, buf) buf other-reported (only-report (writes 1, writes 2, buf))
