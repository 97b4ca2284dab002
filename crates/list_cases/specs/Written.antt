-- Lists that are written, and calls that are refused: computed, all together as one table. Assumes nothing.
use Rattle.std.specs.Prelude.{◌≡◌, refl, true, List, [], ◌∷◌, map, ℕ, ◌<◌, length, replicate}
use Rattle.std.proofs.Common.{sym, ◌∙◌}
use Rattle.rules.specs.Limits.{most_nodes}
use Rattle.rules.specs.Codes.{bad_length}
use Rattle.rules.specs.Range.{within}
use Rattle.run_lists.specs.EventList.{over}
use Rattle.run_lists.specs.Listed.{flat}
use Rattle.list_write.specs.Write.{steps_in, first_fault, write_refusal, Written, wrote}
use Rattle.list_write.specs.Steps.{code-written, refuses-step, refuses-long}

-- Node count, steps and the length of the buffer, whose bytes are 9; the code, and what then stands at its front.
record Row : Type 0 where
  nodes : ℕ
  steps : List ℕ
  room : ℕ
  code : ℕ
  front : List ℕ

abbrev done : ℕ → List ℕ → ℕ → List ℕ → Row
done nodes steps room front = record { nodes = nodes; steps = steps; room = room; code = 0; front = front }

abbrev refused : ℕ → List ℕ → ℕ → ℕ → Row
refused nodes steps room code = record { nodes = nodes; steps = steps; room = room; code = code; front = [] }

abbrev rows : List Row
rows =
    done 2 (1 ∷ 1 ∷ 3 ∷ 1 ∷ 12 ∷ 0 ∷ []) 20 (1 ∷ 1 ∷ 3 ∷ 1 ∷ 12 ∷ 0 ∷ 0 ∷ 0 ∷ 0 ∷ 0 ∷ 3 ∷ 0 ∷ 0 ∷ 0 ∷ 2 ∷ 0 ∷ 77 ∷ 65 ∷ [])
    ∷ done 8 [] 12 (0 ∷ 0 ∷ 0 ∷ 0 ∷ 0 ∷ 0 ∷ 0 ∷ 0 ∷ 8 ∷ 0 ∷ 77 ∷ 65 ∷ [])
    -- the node count before a bad step
    ∷ refused 0 (0 ∷ 0 ∷ []) 20 10
    ∷ refused 9 [] 20 10
    -- the first bad step, whatever the others are
    ∷ refused 1 (1 ∷ 1 ∷ 14 ∷ 1 ∷ 1 ∷ 2 ∷ []) 30 2
    ∷ refused 1 (1 ∷ 1 ∷ 1 ∷ 2 ∷ 14 ∷ 1 ∷ []) 30 3
    ∷ refused 1 (13 ∷ 1 ∷ []) 20 3
    -- a last step that is cut short
    ∷ refused 1 (1 ∷ 1 ∷ 1 ∷ []) 20 3
    ∷ refused 1 (12 ∷ []) 20 3
    ∷ refused 1 (0 ∷ []) 20 2
    -- a bad step before a short buffer; a byte too few
    ∷ refused 1 (1 ∷ 2 ∷ []) 0 3
    ∷ refused 2 (1 ∷ 2 ∷ []) 13 12
    ∷ []

abbrev writes : Row → Written
writes r = wrote r.nodes r.steps (replicate r.room 9)

abbrev expected : Row → Written
expected r = record { code = r.code; length = length r.front; out = over r.front (replicate r.room 9) }

pub all-rows : map writes rows ≡ map expected rows
unfolding within wrote steps_in first_fault write_refusal flat
all-rows = refl

-- ---- lists that are too long

module _ (nodes : ℕ) (steps out : List ℕ) (some : within 1 most_nodes nodes ≡ true) where
  -- A bad step is told first, however many steps there are.
  pub step-first : {code : ℕ} → code ≡ first_fault nodes (steps_in steps) → 0 < code → (wrote nodes steps out).code ≡ code
  step-first e z = code-written nodes steps out ∙ sym (refuses-step nodes steps (length out) some e z)

  -- Behind good steps the length is told, however short the buffer is.
  pub length-first : first_fault nodes (steps_in steps) ≡ 0 → 65524 < length steps → (wrote nodes steps out).code ≡ bad_length
  length-first e h = code-written nodes steps out ∙ sym (refuses-long nodes steps (length out) some e h)
