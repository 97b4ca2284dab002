-- The writer of event lists: what it refuses, what it answers, and what stands in the buffer then.
use Rattle.std.specs.Prelude.{cond, List, [], ◌∷◌, ℕ, zero, suc, ◌+◌, ◌*◌, eqb, leb, length, take}
use Rattle.rules.specs.Limits.{most_nodes}
use Rattle.rules.specs.Codes.{bad_length, bad_node_count, out_too_short}
use Rattle.rules.specs.Range.{within}
use Rattle.rules.specs.Step.{Event, kind_of}
use Rattle.step_asks.specs.Groups.{existence_of}
use Rattle.run_lists.specs.EventList.{trailer_length, longest, need, over}
use Rattle.run_lists.specs.Listed.{list_of}

-- ---- the steps that are handed in

-- In place of a node that is missing. There is no such node.
abbrev pub missing : ℕ
missing = 255

-- Kind and node of each, as bytes. Where the last has no node, it is missing.
unfoldable pub steps_in : List ℕ → List Event
steps_in [] = []
steps_in (k ∷ []) = record { kind = k; node = missing } ∷ []
steps_in (k ∷ n ∷ l) = record { kind = k; node = n } ∷ steps_in l

-- ---- refusals

-- The first code that is not 0.
abbrev pub or_else : ℕ → ℕ → ℕ
or_else zero b = b
or_else (suc a) b = suc a

-- Why a step is bad: there is no such kind, or it does not call for this node. 0 for a good one.
abbrev pub fault_of : ℕ → Event → ℕ
fault_of nodes e = existence_of (kind_of e.kind) nodes e.node

-- Of the first bad one.
unfoldable pub first_fault : ℕ → List Event → ℕ
first_fault nodes [] = 0
first_fault nodes (e ∷ es) = or_else (fault_of nodes e) (first_fault nodes es)

abbrev pub length_of : List Event → ℕ
length_of es = 2 * length es + trailer_length

-- The node count, then every step, then the length of the list, then the buffer.
unfoldable pub write_refusal : ℕ → List Event → ℕ → ℕ
write_refusal nodes es room =
    need (within 1 most_nodes nodes) bad_node_count (or_else (first_fault nodes es) (need (leb (length_of es) longest) bad_length (need (leb (length_of es) room) out_too_short 0)))

-- ---- the answer

pub record Written : Type 0 where
  pub code : ℕ
  pub length : ℕ
  pub out : List ℕ

-- The list at the front of the buffer, and the rest of it stays; a refusal leaves every byte.
abbrev pub written : ℕ → ℕ → List Event → List ℕ → Written
written zero nodes es out = record { code = 0; length = length_of es; out = over (list_of nodes es) out }
written (suc code) nodes es out = record { code = suc code; length = 0; out = out }

unfoldable pub wrote : ℕ → List ℕ → List ℕ → Written
wrote nodes steps out = written (write_refusal nodes (steps_in steps) (length out)) nodes (steps_in steps) out

-- The list, where one was written.
abbrev pub list_in : Written → List ℕ
list_in w = take w.length w.out

-- ---- what a C host is told

-- 256 and the length, or the refusal.
abbrev pub return_of : Written → ℕ
return_of w = cond (eqb w.code 0) (256 + w.length) w.code
