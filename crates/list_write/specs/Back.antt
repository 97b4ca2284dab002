-- Reading what was written gives the steps and the node count back, and writing what was read gives the same bytes. Assumes nothing.
use Rattle.std.specs.Prelude.{◌≡◌, refl, List, [], ◌∷◌, ℕ, zero, suc, ◌+◌, ◌*◌, ◌/◌, ◌%◌, ◌≤◌, ◌<◌, T, get_or, take, drop}
use Rattle.std.proofs.Math.Path.{sym, ap}
use Rattle.std.proofs.Common.{ap₂, ◌∙◌, le_of_suc-le-suc, take-append-drop, get_or-drop, get_or-take, length-take-le, le-leb}
use Rattle.std.proofs.Math.Option.{Option, none, some}
use native.Mathlib.Omega.{arith}
use Rattle.std.proofs.Math.ListN.{length, length-drop}
use Rattle.std.proofs.Math.Seq.{take-append_seam}
use Rattle.rules.specs.Limits.{most_nodes}
use Rattle.rules.specs.Range.{within}
use Rattle.rules.specs.Rules.{Kind, class_of}
use Rattle.rules.specs.Step.{Event, kind_of, called}
use Rattle.rules_laws.specs.All.{All}
use Rattle.rules_laws.specs.Tests.{◌&◌, is_eq, is_within, is-yes}
use Rattle.rules_exchange.specs.Independent.{calls, exists}
use Rattle.step_asks.specs.Groups.{existence_of}
use Rattle.any_list.specs.Tables.{table_of}
use Rattle.run_lists.specs.EventList.{longest, byte_at, number_at, trailer_at, first_record, record_count, node_count, refusal, event_at, record_at, records, over}
use Rattle.run_lists.specs.Listed.{flat, trailer_bytes, list_of}
use Rattle.run_lists.specs.Good.{good, good-ends, records-length}
use Rattle.run_lists.specs.Made.{Small, no_step, list_length, list-good, list-first, list-nodes, list-records}
use Rattle.list_write.specs.Write.{steps_in, fault_of, first_fault, length_of, write_refusal, list_in, wrote}
use Rattle.list_write.specs.Steps.{flat-steps, kept, code-written}

-- ---- the bytes of a list without notes, before its trailer

-- A list of k elements, one by one.
abbrev spelled : ℕ → (ℕ → ℕ) → List ℕ
spelled zero g = []
spelled (suc k) g = g 0 ∷ spelled k (λ i. g (suc i))

spell : (k : ℕ) (t : List ℕ) → length t ≡ k → t ≡ spelled k (λ i. get_or t i 0)
spell zero [] h = refl
spell zero (x ∷ t) h = absurd (omega arith)
spell (suc k) [] h = absurd (omega arith)
spell (suc k) (x ∷ t) h = ap (λ m. x ∷ m) (spell k t (omega arith))

step-at : (n : ℕ) (l : List ℕ) (i : ℕ) → length l ≡ 2 * n → i < n → get_or (steps_in l) i no_step ≡ event_at l (2 * i)
unfolding steps_in
step-at zero l i h k = absurd (omega arith)
step-at (suc n) [] i h k = absurd (omega arith)
step-at (suc n) (x ∷ []) i h k = absurd (omega arith)
step-at (suc n) (x ∷ y ∷ l) zero h k = refl
step-at (suc n) (x ∷ y ∷ l) (suc i) h k =
    let one : 2 * suc i ≡ suc (suc (2 * i)) = omega arith in
    let two : suc (suc (2 * i)) + 1 ≡ suc (suc (2 * i + 1)) = omega arith in
    step-at n l i (omega arith) (le_of_suc-le-suc k) ∙ rw (one, two)

count-in : (n : ℕ) (l : List ℕ) → length l ≡ 2 * n → length (steps_in l) ≡ n
unfolding steps_in
count-in zero [] h = refl
count-in zero (x ∷ l) h = absurd (omega arith)
count-in (suc n) [] h = absurd (omega arith)
count-in (suc n) (x ∷ []) h = absurd (omega arith)
count-in (suc n) (x ∷ y ∷ l) h = ap suc (count-in n l (omega arith))

module _ (l : List ℕ) (ok : refusal l ≡ 0) (bare : first_record l ≡ 0) (small : (i : ℕ) → byte_at l i < 256) where
  abbrev body : List ℕ
  body = take (trailer_at l) l

  place : trailer_at l ≡ 2 * record_count l
  place = let g = good l ok in let s = g.sum in omega arith

  body-length : length body ≡ 2 * record_count l
  body-length = length-take-le (trailer_at l) l (omega arith) ∙ place

  pub body-steps : steps_in body ≡ records l
  body-steps = table_of (record_count l) (record_at l) (steps_in body) no_step (count-in (record_count l) body body-length) (λ i h.
      let z : first_record l + 2 * i ≡ 2 * i = (let b = bare in omega arith) in
      let p = place in
      step-at (record_count l) body i body-length h
      ∙ ap₂ (λ (a b : ℕ). record { kind = a; node = b }) (get_or-take (trailer_at l) l (2 * i) 0 (omega arith)) (get_or-take (trailer_at l) l (2 * i + 1) 0 (omega arith))
      ∙ ap (event_at l) (sym z))

  body-small : (i : ℕ) → get_or body i 0 < 256
  body-small i = small-take (trailer_at l) l i small
    where
      small-take : (n : ℕ) (l : List ℕ) (i : ℕ) → ((i : ℕ) → byte_at l i < 256) → get_or (take n l) i 0 < 256
      small-take zero l i f = omega arith
      small-take (suc n) [] i f = omega arith
      small-take (suc n) (x ∷ l) zero f = f 0
      small-take (suc n) (x ∷ l) (suc i) f = small-take n l i (λ j. f (suc j))

  pub body-flat : flat (records l) ≡ body
  body-flat = ap flat (sym body-steps) ∙ flat-steps body body-small (body-length ∙ ap (λ (n : ℕ). 2 * n) (sym (count-in (record_count l) body body-length)))

  behind : (i : ℕ) → get_or (drop (trailer_at l) l) i 0 ≡ byte_at l (trailer_at l + i)
  behind i = get_or-drop (trailer_at l) l i 0

  -- Byte i + j of the trailer.
  later : (i j : ℕ) → get_or (drop (trailer_at l) l) (i + j) 0 ≡ byte_at l (trailer_at l + i + j)
  later i j = let e : trailer_at l + (i + j) ≡ trailer_at l + i + j = omega arith in behind (i + j) ∙ ap (byte_at l) e

  trailer-same : trailer_bytes (record_count l) (node_count l) ≡ drop (trailer_at l) l
  unfolding number_at
  trailer-same =
      let t = trailer_at l in
      let g = good l ok in
      let s = g.size.lower in
      let u = g.size.upper in
      let p = place in
      let z : byte_at l t + 256 * (byte_at l (t + 1) + 256 * (byte_at l (t + 2) + 256 * byte_at l (t + 3))) ≡ 0 = bare in
      let z₀ : byte_at l t ≡ 0 = omega arith in
      let z₁ : byte_at l (t + 1) ≡ 0 = omega arith in
      let z₂ : byte_at l (t + 2) ≡ 0 = omega arith in
      let z₃ : byte_at l (t + 3) ≡ 0 = omega arith in
      let b₀ = small (t + 4) in
      let b₁ = small (t + 4 + 1) in
      let low : byte_at l (t + 4) ≡ record_count l % 256 = omega arith in
      let high : byte_at l (t + 4 + 1) ≡ record_count l / 256 = omega arith in
      let c₂ : byte_at l (t + 4 + 2) ≡ 0 = omega arith in
      let c₃ : byte_at l (t + 4 + 3) ≡ 0 = omega arith in
      let o : t + 0 ≡ t = omega arith in
      let n : length (drop t l) ≡ 12 = length-drop t l ∙ omega arith in
      let e = (is_eq (byte_at l (t + 10)) 77 & is_eq (byte_at l (t + 11)) 65 & is_eq (byte_at l (t + 9)) 0).to (good-ends l ok) in
      sym (spell 12 (drop t l) n ∙ rw (
        behind 0 ∙ ap (byte_at l) o ∙ z₀,
        behind 1 ∙ z₁,
        behind 2 ∙ z₂,
        behind 3 ∙ z₃,
        behind 4 ∙ low,
        later 4 1 ∙ high,
        later 4 2 ∙ c₂,
        later 4 3 ∙ c₃,
        behind 8,
        behind 9 ∙ e.1,
        behind 10 ∙ e.0.0,
        behind 11 ∙ e.0.1,
      ) refl)

  -- A good list without notes is the list of what it says.
  pub list_back : list_of (node_count l) (records l) ≡ l
  list_back =
      let n : length (records l) ≡ record_count l = records-length l in
      rw (n, body-flat, trailer-same) (take-append-drop (trailer_at l) l)

-- ---- reading what was written

-- Steps in bytes, read again.
pub steps-flat : (es : List Event) → All Small es → steps_in (flat es) ≡ es
unfolding steps_in flat
steps-flat [] small = refl
steps-flat (e ∷ es) small =
    let a = small.0.0 in
    let b = small.0.1 in
    let kind : e.kind % 256 ≡ e.kind = omega arith in
    let node : e.node % 256 ≡ e.node = omega arith in
    rw (kind, node, steps-flat es small.1)

small-steps : (steps : List ℕ) → ((i : ℕ) → get_or steps i 0 < 256) → All Small (steps_in steps)
unfolding steps_in
small-steps [] small = tt
small-steps (k ∷ []) small = ((small 0, omega arith), tt)
small-steps (k ∷ n ∷ l) small = ((small 0, small 1), small-steps l (λ i. small (suc (suc i))))

module _ (nodes : ℕ) (steps out : List ℕ) (small : (i : ℕ) → get_or steps i 0 < 256) (done : (wrote nodes steps out).code ≡ 0) where
  none-refused : 0 ≡ write_refusal nodes (steps_in steps) (length out)
  none-refused = sym done ∙ code-written nodes steps out

  is-list : list_in (wrote nodes steps out) ≡ list_of nodes (steps_in steps)
  unfolding wrote
  is-list =
      let k = kept nodes steps out none-refused in
      let n : length_of (steps_in steps) ≡ length (list_of nodes (steps_in steps)) = sym (list_length nodes (steps_in steps) k.nodes-in.lower k.nodes-in.upper k.short) in
      rw (← none-refused, n) (take-append_seam (list_of nodes (steps_in steps)) (drop (length (list_of nodes (steps_in steps))) out))

  -- It is good, has no notes, and says the node count and the steps.
  pub read_back : let list = list_in (wrote nodes steps out) in (refusal list ≡ 0) × (first_record list ≡ 0) × (node_count list ≡ nodes) × (records list ≡ steps_in steps)
  read_back =
      let k = kept nodes steps out none-refused in
      let a = k.nodes-in.lower in
      let b = k.nodes-in.upper in
      let es = steps_in steps in
      rw is-list (list-good nodes es a b k.short, list-first nodes es a b k.short, list-nodes nodes es a b k.short, list-records nodes es a b k.short (small-steps steps small))

-- ---- writing what was read

pub exists-good : (nodes : ℕ) (e : Event) → T (exists nodes e) → fault_of nodes e ≡ 0
unfolding exists
exists-good nodes e t = go (kind_of e.kind) t
  where
    go : (o : Option Kind) → T (calls o nodes e.node) → existence_of o nodes e.node ≡ 0
    go none t = absurd t
    go (some k) t = rw ((is-yes (called (class_of k) nodes e.node)).to t) refl

pub all-good : (nodes : ℕ) (es : List Event) → All (λ e. T (exists nodes e)) es → first_fault nodes es ≡ 0
unfolding first_fault
all-good nodes [] a = refl
all-good nodes (e ∷ es) a = rw (exists-good nodes e a.0) (all-good nodes es a.1)

-- What a good list says is refused for nothing but the room.
pub none-bad : (l : List ℕ) → refusal l ≡ 0 → All (λ e. T (exists (node_count l) e)) (records l) → (room : ℕ) → length_of (records l) ≤ room → write_refusal (node_count l) (records l) room ≡ 0
unfolding write_refusal
none-bad l ok all room h =
    let g = good l ok in
    let s = g.sum in
    let u = g.size.upper in
    let c = records-length l in
    rw (
      (is-yes (within 1 most_nodes (node_count l))).to ((is_within 1 most_nodes (node_count l)).from g.nodes),
      all-good (node_count l) (records l) all,
      le-leb (length_of (records l)) longest (omega arith),
      le-leb (length_of (records l)) room h,
    )

module _ (l : List ℕ) (ok : refusal l ≡ 0) (bare : first_record l ≡ 0) (small : (i : ℕ) → byte_at l i < 256) (all : All (λ e. T (exists (node_count l) e)) (records l))
    (out : List ℕ) (room : length l ≤ length out) where
  pub write-back : wrote (node_count l) (flat (records l)) out ≡ record { code = 0; length = length l; out = over l out }
  unfolding wrote
  write-back =
      let s = (good l ok).sum in
      let c = records-length l in
      let n : length_of (records l) ≡ length l = omega arith in
      rw (body-flat l ok bare small, body-steps l ok bare small, none-bad l ok all (length out) (omega arith), list_back l ok bare small)
      (ap (λ (k : ℕ). record { code = 0; length = k; out = over l out }) n)
