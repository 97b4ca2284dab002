-- What a host is told of two merges: what is returned, and the buffer for the places. A refusal leaves the buffer as it was.
use Rattle.std.specs.Prelude.{cond, List, [], ◌∷◌, ◌++◌, ℕ, ◌+◌, ◌/◌, ◌%◌, eqb, leb, length, Result, Ok, Err}
use Rattle.rules.specs.Codes.{out_too_short}
use Rattle.run_lists.specs.EventList.{refusal, over}
use Rattle.step_parts.specs.Answers.{refusal_code}
use Rattle.merge_compare.specs.declared.Verdict.{Verdict}
use Rattle.merge_compare.specs.declared.Verdict.TheVariants as V
use Rattle.merge_compare.specs.declared.Refused.{Refused}
use Rattle.merge_compare.specs.declared.Refused.TheVariants as W
use Rattle.merge_compare.specs.Compared.{compared}

abbrev pub places_length : ℕ
places_length = 8

-- The least byte first. No place is above 32,762.
abbrev pub two_bytes : ℕ → List ℕ
two_bytes n = n % 256 ∷ n / 256 % 256 ∷ []

abbrev pub four_places : ℕ → ℕ → ℕ → ℕ → List ℕ
four_places p q r s = two_bytes p ++ two_bytes q ++ two_bytes r ++ two_bytes s

-- Places p and q of the first list, r and s of the second; 0 where there is none.
abbrev pub place_bytes : Verdict → List ℕ
place_bytes V.Same = four_places 0 0 0 0
place_bytes (V.Order p q r s) = four_places p q r s
place_bytes (V.OnlyFirst p) = four_places p 0 0 0
place_bytes (V.OnlySecond s) = four_places 0 0 0 s

-- ---- what is returned

abbrev pub verdict_number : Verdict → ℕ
verdict_number V.Same = 256
verdict_number (V.Order p q r s) = 257
verdict_number (V.OnlyFirst p) = 258
verdict_number (V.OnlySecond s) = 259

-- Added to the refusal of a second list.
abbrev pub of_second : ℕ
of_second = 16

-- The lists have different node counts.
abbrev pub nodes_differ : ℕ
nodes_differ = 28

abbrev pub refusal_number : Refused → ℕ
refusal_number (W.First r) = refusal_code r
refusal_number (W.Second r) = of_second + refusal_code r
refusal_number W.NodesDiffer = nodes_differ

pub record Reply : Type 0 where
  pub returned : ℕ
  pub places : List ℕ

-- A verdict comes with places; the bytes after them stay.
abbrev pub given : Result Verdict Refused → List ℕ → Reply
given (Ok v) out = record { returned = verdict_number v; places = over (place_bytes v) out }
given (Err r) out = record { returned = refusal_number r; places = out }

-- Lower numbers first.
unfoldable pub reply : List ℕ → List ℕ → List ℕ → Reply
reply first second out =
    cond (leb places_length (length out))
    (given (compared first second) out)
    (record { returned = cond (eqb (refusal first) 0) out_too_short (refusal first); places = out })
