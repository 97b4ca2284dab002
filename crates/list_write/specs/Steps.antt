-- The steps that are handed in, one after another as a loop reads them. Assumes nothing.
use Rattle.std.specs.Prelude.{◌≡◌, Bool, get_or, min}
use Rattle.std.proofs.Math.Path.{refl, ap, ap₂}
use Rattle.std.proofs.Common.{sym, ◌∙◌}
use Rattle.std.proofs.Math.Bool.{true, false, and-false}
use Rattle.std.proofs.Math.Option.{Option, none, some}
use mathlib.Core.List.{List, [], ◌∷◌, ◌++◌}
use Prim.Native.Nat.{ℕ, zero, suc, ◌+◌, ◌*◌, ◌/◌, ◌%◌, ◌≤◌, ◌<◌}
use native.Mathlib.Omega.{arith}
use Rattle.std.proofs.Math.Dec.{leb}
use Rattle.std.proofs.Math.ListN.{length, length-append}
use borrow.Author.Tests.{le-leb, lt-leb, leb-true, ne_eqb}
use Rattle.rules.specs.Limits.{most_nodes}
use Rattle.rules.specs.Codes.{bad_length, bad_node_count, out_too_short}
use Rattle.rules.specs.Range.{within}
use Rattle.rules.specs.Parts.{Class, service, learn, send, receive, link, tell, serve, power}
use Rattle.rules.specs.Rules.{Kind, class_of}
use Rattle.rules.specs.Step.{Event, kind_of, called}
use Rattle.rules_laws.specs.InRange.{Within}
use Rattle.rules_laws.specs.Tests.{is_within}
use Rattle.any_text.specs.Put.{Room, Put}
use Rattle.any_text.specs.Puts.{put-length, put_then}
use Rattle.step_asks.specs.Groups.{existence_of}
use Rattle.run_lists.specs.EventList.{trailer_length, longest, need, over}
use Rattle.run_lists.specs.Written.{over-more}
use Rattle.run_lists.specs.Listed.{flat, trailer_bytes, list_of}
use Rattle.list_write.specs.Write.{missing, steps_in, or_else, fault_of, first_fault, length_of, write_refusal, written, wrote, return_of}

-- ---- the first fault

-- The step that its bytes say: two, or one where the node is missing.
abbrev pub step_in : List ℕ → Event
step_in step = record { kind = get_or step 0 0; node = get_or step 1 missing }

-- The bytes of the first step, and those of the others: its fault goes first.
pub first_fault-step : (nodes : ℕ) (step rest : List ℕ) → length step ≡ min 2 (length (step ++ rest)) → 0 < length (step ++ rest)
    → first_fault nodes (steps_in (step ++ rest)) ≡ or_else (fault_of nodes (step_in step)) (first_fault nodes (steps_in rest))
unfolding steps_in first_fault
first_fault-step nodes [] rest s h = absurd (omega arith)
first_fault-step nodes (k ∷ []) [] s h = refl
first_fault-step nodes (k ∷ []) (x ∷ rest) s h = absurd (omega arith)
first_fault-step nodes (k ∷ n ∷ []) rest s h = refl
first_fault-step nodes (k ∷ n ∷ m ∷ l) rest s h = absurd (omega arith)

-- What a loop knows that has passed no bad step, and reads the next.
module _ (nodes : ℕ) (steps all step rest : List ℕ) (parts : all ≡ step ++ rest) (size : length step ≡ min 2 (length all)) (some : 0 < length all)
    (left : first_fault nodes (steps_in all) ≡ first_fault nodes (steps_in steps)) where
  first-left : or_else (fault_of nodes (step_in step)) (first_fault nodes (steps_in rest)) ≡ first_fault nodes (steps_in steps)
  first-left =
      sym (first_fault-step nodes step rest (rw parts at size) (rw parts at some)) ∙ ap (λ (l : List ℕ). first_fault nodes (steps_in l)) (sym parts) ∙ left

  pub good-step : 0 ≡ fault_of nodes (step_in step) → first_fault nodes (steps_in rest) ≡ first_fault nodes (steps_in steps)
  good-step z = ap (λ (c : ℕ). or_else c (first_fault nodes (steps_in rest))) z ∙ first-left

  pub bad-step : {code : ℕ} → code ≡ fault_of nodes (step_in step) → 0 < code → code ≡ first_fault nodes (steps_in steps)
  bad-step {code} e z = go code z (ap (λ (c : ℕ). or_else c (first_fault nodes (steps_in rest))) e ∙ first-left)
    where
      go : (c : ℕ) → 0 < c → or_else c (first_fault nodes (steps_in rest)) ≡ first_fault nodes (steps_in steps) → c ≡ first_fault nodes (steps_in steps)
      go zero z e = absurd (omega arith)
      go (suc c) z e = e

-- ---- a node that is missing

-- No step at a place behind the last is good.
no-missing : (nodes : ℕ) → nodes ≤ most_nodes → (o : Option Kind) → 0 < existence_of o nodes missing
unfolding within
no-missing nodes h none = omega arith
no-missing nodes h (some k) = rw (uncalled (class_of k)) (omega arith)
  where
    above : within 1 nodes missing ≡ false
    above = rw (lt-leb missing nodes (omega arith)) refl

    uncalled : (c : Class) → called c nodes missing ≡ false
    uncalled service = above
    uncalled learn = above
    uncalled send = above
    uncalled receive = above
    uncalled link = above
    uncalled tell = above
    uncalled serve = above
    uncalled power = refl

or-none : (a b : ℕ) → or_else a b ≡ 0 → (a ≡ 0) × (b ≡ 0)
or-none zero b e = (refl, e)
or-none (suc a) b e = absurd (omega arith)

-- Where no step is bad, each has its two bytes.
pub steps-length : (nodes : ℕ) → nodes ≤ most_nodes → (steps : List ℕ) → first_fault nodes (steps_in steps) ≡ 0 → length steps ≡ 2 * length (steps_in steps)
unfolding steps_in first_fault
steps-length nodes h [] e = refl
steps-length nodes h (k ∷ []) e = absurd (let z = (or-none (existence_of (kind_of k) nodes missing) 0 e).0 in let p = no-missing nodes h (kind_of k) in omega arith)
steps-length nodes h (k ∷ n ∷ l) e =
    let r = steps-length nodes h l (or-none (fault_of nodes (record { kind = k; node = n })) (first_fault nodes (steps_in l)) e).1 in
    omega arith

-- Their bytes are those that are handed in.
pub flat-steps : (steps : List ℕ) → ((i : ℕ) → get_or steps i 0 < 256) → length steps ≡ 2 * length (steps_in steps) → flat (steps_in steps) ≡ steps
unfolding steps_in flat
flat-steps [] small h = refl
flat-steps (k ∷ []) small h = absurd (omega arith)
flat-steps (k ∷ n ∷ l) small h =
    let a = small 0 in
    let b = small 1 in
    let kind : k % 256 ≡ k = omega arith in
    let node : n % 256 ≡ n = omega arith in
    rw (kind, node, flat-steps l (λ i. small (suc (suc i))) (omega arith))

-- ---- refusals

module _ (nodes : ℕ) (steps : List ℕ) (room : ℕ) where
  pub refuses-nodes : within 1 most_nodes nodes ≡ false → bad_node_count ≡ write_refusal nodes (steps_in steps) room
  unfolding write_refusal
  refuses-nodes e = rw e

  module _ (some : within 1 most_nodes nodes ≡ true) where
    pub refuses-step : {code : ℕ} → code ≡ first_fault nodes (steps_in steps) → 0 < code → code ≡ write_refusal nodes (steps_in steps) room
    unfolding write_refusal
    refuses-step {code} e z = rw (some, ← e) (go _ code z)
      where
        go : (b c : ℕ) → 0 < c → c ≡ or_else c b
        go b zero z = absurd (omega arith)
        go b (suc c) z = refl

    module _ (good : first_fault nodes (steps_in steps) ≡ 0) where
      pub both_bytes : length steps ≡ 2 * length (steps_in steps)
      both_bytes = steps-length nodes ((is_within 1 most_nodes nodes).to (rw some tt)).upper steps good

      pub refuses-long : 65524 < length steps → bad_length ≡ write_refusal nodes (steps_in steps) room
      unfolding write_refusal
      refuses-long h = let n = both_bytes in rw (some, good, lt-leb (length_of (steps_in steps)) longest (omega arith))

      module _ (short : length steps ≤ 65524) where
        fits : leb (length_of (steps_in steps)) longest ≡ true
        fits = let n = both_bytes in le-leb (length_of (steps_in steps)) longest (omega arith)

        pub refuses-room : room < length steps + trailer_length → out_too_short ≡ write_refusal nodes (steps_in steps) room
        unfolding write_refusal
        refuses-room h = let n = both_bytes in rw (some, good, fits, lt-leb (length_of (steps_in steps)) room (omega arith))

        pub refuses-nothing : length steps + trailer_length ≤ room → 0 ≡ write_refusal nodes (steps_in steps) room
        unfolding write_refusal
        refuses-nothing h = let n = both_bytes in rw (some, good, fits, le-leb (length_of (steps_in steps)) room (omega arith))

-- ---- the list that is written

module _ (nodes : ℕ) (steps out : List ℕ) (none : 0 ≡ write_refusal nodes (steps_in steps) (length out)) where
  -- What is known where nothing is refused.
  pub record Kept : Type 0 where
    pub nodes-in : Within 1 most_nodes nodes
    pub bytes : length steps ≡ 2 * length (steps_in steps)
    pub short : length (steps_in steps) ≤ 32762
    pub room : 2 * length (steps_in steps) + trailer_length ≤ length out

  pub kept : Kept
  unfolding write_refusal
  kept = go (within 1 most_nodes nodes) refl _ refl (leb (length_of (steps_in steps)) longest) refl (leb (length_of (steps_in steps)) (length out)) refl none
    where
      go : (a : Bool) → within 1 most_nodes nodes ≡ a → (f : ℕ) → first_fault nodes (steps_in steps) ≡ f → (b : Bool) → leb (length_of (steps_in steps)) longest ≡ b
          → (d : Bool) → leb (length_of (steps_in steps)) (length out) ≡ d → 0 ≡ need a bad_node_count (or_else f (need b bad_length (need d out_too_short 0))) → Kept
      go false i f j b k d m h = absurd (omega arith)
      go true i (suc f) j b k d m h = absurd (omega arith)
      go true i zero j false k d m h = absurd (omega arith)
      go true i zero j true k false m h = absurd (omega arith)
      go true i zero j true k true m h = let long = leb-true (length_of (steps_in steps)) longest k in record {
        nodes-in = (is_within 1 most_nodes nodes).to (rw i tt);
        bytes = steps-length nodes ((is_within 1 most_nodes nodes).to (rw i tt)).upper steps j;
        short = omega arith;
        room = leb-true (length_of (steps_in steps)) (length out) m;
      }

  pub few-steps : length steps / 2 ≤ 32762
  few-steps = let b = kept.bytes in let s = kept.short in omega arith

  pub steps-room : Room out 0 steps
  steps-room = record { enough = let b = kept.bytes in let r = kept.room in omega arith }

  module _ {m : List ℕ} {at : ℕ} (p : Put out 0 steps m at) {trailer : List ℕ} (is : trailer ≡ trailer_bytes (length steps / 2) nodes) where
    pub trailer-room : Room m at trailer
    trailer-room = record { enough = let n = ap length is in let b = kept.bytes in let r = kept.room in let l = put-length p in let z = p.place in omega arith }

    pub list_written : ((i : ℕ) → get_or steps i 0 < 256) → {k : List ℕ} {j : ℕ} → Put m at trailer k j → (0 ≡ (wrote nodes steps out).code) × (j ≡ (wrote nodes steps out).length) × (k ≡ (wrote nodes steps out).out)
    unfolding wrote
    list_written small {k} {j} q =
        let bytes = kept.bytes in
        let room = kept.room in
        let half : length steps / 2 ≡ length (steps_in steps) = omega arith in
        let all : steps ++ trailer ≡ list_of nodes (steps_in steps) =
        ap₂ (λ (l t : List ℕ). l ++ t) (sym (flat-steps steps small bytes)) (is ∙ ap (λ (n : ℕ). trailer_bytes n nodes) half) in
        let t = put_then p q in
        let n = length-append steps trailer in
        let o = ap length is in
        let z = t.place in
        rw (← none) (refl, omega arith, t.content ∙ over-more [] (steps ++ trailer) out (omega arith) ∙ ap (λ (l : List ℕ). over l out) all)

-- A list that is not refused, and one that is.
pub code-written : (nodes : ℕ) (steps out : List ℕ) → (wrote nodes steps out).code ≡ write_refusal nodes (steps_in steps) (length out)
unfolding wrote
code-written nodes steps out = go (write_refusal nodes (steps_in steps) (length out))
  where
    go : (c : ℕ) → (written c nodes (steps_in steps) out).code ≡ c
    go zero = refl
    go (suc c) = refl

pub not_written : (nodes : ℕ) (steps out : List ℕ) {code : ℕ} → code ≡ write_refusal nodes (steps_in steps) (length out) → 0 < code
    → (code ≡ (wrote nodes steps out).code) × (0 ≡ (wrote nodes steps out).length) × (out ≡ (wrote nodes steps out).out)
unfolding wrote
not_written nodes steps out {code} e z = rw (← e) (go code z)
  where
    go : (c : ℕ) → 0 < c → (c ≡ (written c nodes (steps_in steps) out).code) × (0 ≡ (written c nodes (steps_in steps) out).length) × (out ≡ (written c nodes (steps_in steps) out).out)
    go zero z = absurd (omega arith)
    go (suc c) z = (refl, refl, refl)

-- ---- what a C host is told

module _ (nodes : ℕ) (steps out : List ℕ) where
  pub short-list : (wrote nodes steps out).length ≤ longest
  unfolding wrote
  short-list = go (write_refusal nodes (steps_in steps) (length out)) refl
    where
      go : (c : ℕ) → c ≡ write_refusal nodes (steps_in steps) (length out) → (written c nodes (steps_in steps) out).length ≤ longest
      go zero e = let s = (kept nodes steps out e).short in omega arith
      go (suc c) e = omega arith

  pub told-nodes : most_nodes < nodes → (bad_node_count ≡ return_of (wrote nodes steps out)) × (out ≡ (wrote nodes steps out).out)
  unfolding wrote write_refusal within
  told-nodes h = rw (lt-leb nodes most_nodes h, and-false (leb 1 nodes)) (refl, refl)

  module _ {code length : ℕ} (c : code ≡ (wrote nodes steps out).code) (l : length ≡ (wrote nodes steps out).length) where
    pub told-code : 0 < code → code ≡ return_of (wrote nodes steps out)
    told-code z = rw (← c, ne_eqb code 0 (λ e. omega arith)) refl

    pub told-length : code ≡ 0 → 256 + length ≡ return_of (wrote nodes steps out)
    told-length z = rw (← c, ← l, z)
