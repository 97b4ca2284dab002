-- Where exchanges of independent neighbours lead from one list to another, each record stands in both, at one place, and has one answer. Assumes nothing.
use Rattle.std.specs.Prelude.{◌≡◌, refl, Bool, true, false, List, [], ◌∷◌, ℕ, zero, suc, ◌+◌, ◌≤◌, ◌<◌, length, get_or, take}
use Rattle.std.proofs.Common.{sym, ap, subst, ◌∙◌, le_of_suc-le-suc, arith, get_or-take}
use Rattle.std.proofs.Math.Decide.{dec_lt}
use Rattle.rules.specs.Step.{Event, step, fresh}
use Rattle.rules_laws.specs.Runs.{run_length}
use Rattle.rules_exchange.specs.Claim.{swap_at, swaps, Neighbours, Allowed}
use Rattle.any_list.specs.Tables.{table-get}
use Rattle.run_lists.specs.EventList.{node_count, record_count, record_at, records, refusal, history_bytes}
use Rattle.run_lists.specs.Good.{records-length}
use Rattle.run.specs.Ran.{history_room, whole_run, Ran, ran}
use Rattle.run.specs.Refusing.{ran-all}
use Rattle.run_exchange.specs.SameRun.{Remerged, SameRun}
use Rattle.run_exchange.specs.Exchanges.{swaps-length}
use Rattle.run_exchange.specs.Buffers.{first_piece}
use Rattle.merge_verdict.specs.Verdict.{same_event, Independent}
use Rattle.merge_verdict.specs.Steps.{same-eq, independent-self}
use Rattle.merge_letters.specs.Letters.{bit}
use Rattle.merge_assured.specs.Assured.{times, Stands, StandsOnce, Keeps}
use Rattle.merge_assured.specs.Times.{times_more, times-passed, same-sym}

-- What stands past the end.
abbrev past : Event
past = record { kind = 0; node = 0 }

-- The step at place p of the one list, with its answer, stands in the other as the same occurrence, with the same answer.
record Follows (es fs : List Event) (ks ls : List ℕ) (p : ℕ) : Type 0 where
  place : ℕ
  inside : place < length fs
  step : get_or fs place past ≡ get_or es p past
  occurs : times (get_or es p past) (take p es) ≡ times (get_or es p past) (take place fs)
  answer : get_or ls place 0 ≡ get_or ks p 0

other_step : (count : ℕ) (x y : Event) → Independent count x y → same_event x y ≡ false
other_step count x y t = go (same_event x y) refl
  where
    go : (b : Bool) → same_event x y ≡ b → same_event x y ≡ false
    go true i = let same = same-eq x y (rw i tt) in absurd (rw (← same, independent-self count x) at t)
    go false i = i

module _ (count : ℕ) where
  -- One exchange.
  follow_one : (i : ℕ) (es : List Event) (ks : List ℕ) → length ks ≡ length es → Neighbours (Independent count) i es → (p : ℕ) → p < length es → Follows es (swap_at i es) ks (swap_at i ks) p
  follow_one i [] ks l n p h = absurd n
  follow_one zero (x ∷ []) ks l n p h = absurd n
  follow_one zero (x ∷ y ∷ es) [] l n p h = absurd (omega arith)
  follow_one zero (x ∷ y ∷ es) (a ∷ []) l n p h = absurd (omega arith)
  follow_one zero (x ∷ y ∷ es) (a ∷ b ∷ ks) l n zero h = record {
    place = 1;
    inside = omega arith;
    step = refl;
    occurs = let u = times_more x y [] in let v = ap bit (other_step count x y n) in omega arith;
    answer = refl;
  }
  follow_one zero (x ∷ y ∷ es) (a ∷ b ∷ ks) l n (suc zero) h = record {
    place = 0;
    inside = omega arith;
    step = refl;
    occurs = let u = times_more y x [] in let v = ap bit (same-sym x y (other_step count x y n)) in omega arith;
    answer = refl;
  }
  follow_one zero (x ∷ y ∷ es) (a ∷ b ∷ ks) l n (suc (suc p)) h = record {
    place = suc (suc p);
    inside = h;
    step = refl;
    occurs =
        let e = get_or es p past in
        let u = times_more e x (y ∷ take p es) in
        let v = times_more e y (take p es) in
        let u' = times_more e y (x ∷ take p es) in
        let v' = times_more e x (take p es) in
        omega arith;
    answer = refl;
  }
  follow_one (suc i) (x ∷ es) [] l n p h = absurd (omega arith)
  follow_one (suc i) (x ∷ es) (a ∷ ks) l n zero h = record { place = 0; inside = omega arith; step = refl; occurs = refl; answer = refl }
  follow_one (suc i) (x ∷ es) (a ∷ ks) l n (suc p) h =
      let f = follow_one i es ks (omega arith) n p (le_of_suc-le-suc h) in
      record {
        place = suc f.place;
        inside = let z = f.inside in omega arith;
        step = f.step;
        occurs =
            let e = get_or es p past in
            let u = times_more e x (take p es) in
            let v = times_more e x (take f.place (swap_at i es)) in
            let w = f.occurs in
            omega arith;
        answer = f.answer;
      }

  follow-on : {es fs gs : List Event} {ks ls ms : List ℕ} {p : ℕ} → Follows es fs ks ls p → ((q : ℕ) → q < length fs → Follows fs gs ls ms q) → Follows es gs ks ms p
  follow-on {es} {fs} {gs} {p = p} f g =
      let k = g f.place f.inside in
      record {
        place = k.place;
        inside = k.inside;
        step = k.step ∙ f.step;
        occurs = f.occurs ∙ subst (λ (e : Event). times e (take f.place fs) ≡ times e (take k.place gs)) f.step k.occurs;
        answer = k.answer ∙ f.answer;
      }

  follow-all : (is : List ℕ) (es : List Event) (ks : List ℕ) → length ks ≡ length es → Allowed (Independent count) is es → (p : ℕ) → p < length es → Follows es (swaps is es) ks (swaps is ks) p
  follow-all [] es ks l n p h = record { place = p; inside = h; step = refl; occurs = refl; answer = refl }
  follow-all (i ∷ is) es ks l n p h =
      follow-on (follow_one i es ks l n.0 p h) (follow-all is (swap_at i es) (swap_at i ks) (swaps-length (i ∷ []) ks ∙ l ∙ sym (swaps-length (i ∷ []) es)) n.1)

-- ---- two lists of bytes

module _ (list out : List ℕ) (good : refusal list ≡ 0) (room : record_count list + history_room ≤ length out) where
  answers-length : length (take (record_count list) (ran list out).out) ≡ record_count list
  answers-length =
      let t = whole_run list in
      let n = run_length step (fresh (node_count list)) (records list) ∙ records-length list in
      ap (λ (x : Ran). length (take (record_count list) x.out)) (ran-all list out good room) ∙ ap length (first_piece t.answer (history_bytes t.state.history) out n refl) ∙ n

pub keeps : (first second places out : List ℕ) → Remerged first second places → SameRun first second places out → record_count first + history_room ≤ length out
    → (p : ℕ) → p < record_count first → Keeps first second out p
keeps first second places out m r room p h =
    let n = records-length first in
    let n' = records-length second in
    let size = ap length m.exchanged ∙ swaps-length places (records first) in
    let answers = take (record_count first) (ran first out).out in
    let f : Follows (records first) (records second) answers (take (record_count first) (ran second out).out) p =
    rw (m.exchanged, r.answers) (follow-all (node_count first) places (records first) answers (answers-length first out m.accepted room ∙ sym n) m.allowed p (omega arith)) in
    let q = f.place in
    let in-second : q < record_count second = (let z = f.inside in omega arith) in
    let here = table-get (record_count first) (record_at first) p past h in
    let there = table-get (record_count second) (record_at second) q past in-second in
    let alike : record_at first p ≡ record_at second q = sym here ∙ sym f.step ∙ there in
    record {
      place = q;
      stands = record {
        in-first = h;
        in-second = in-second;
        alike = alike;
        occurs = ap (λ (e : Event). times e (take p (records first))) (sym here) ∙ f.occurs ∙ ap (λ (e : Event). times e (take q (records second))) (here ∙ alike);
      };
      answer = sym (get_or-take (record_count first) (ran second out).out q 0 (omega arith)) ∙ f.answer ∙ get_or-take (record_count first) (ran first out).out p 0 h;
    }

-- ---- a record stands at one place

pub stands-once : StandsOnce
stands-once first second p q r a b = go (dec_lt q r) (dec_lt r q)
  where
    -- of two places of one record the later has more of it before it
    apart : (q r : ℕ) → q < r → Stands first second p q → Stands first second p r → ⊥
    apart q r h a b =
        let more = times-passed (record_count second) (record_at second) q r h (let z = b.in-second in omega arith) in
        let same = ap (λ (e : Event). times e (take r (records second))) (sym a.alike ∙ b.alike) in
        let u = a.occurs in
        let v = b.occurs in
        omega arith

    go : Dec (q < r) → Dec (r < q) → q ≡ r
    go (yes h) d = absurd (apart q r h a b)
    go (no h) (yes k) = absurd (apart r q k b a)
    go (no h) (no k) = omega arith
