-- The tests of queues and of the history say what the rules' test of range and the blanks of the structs say. Assumes nothing.
use Rattle.std.specs.Prelude.{◌≡◌, Bool, true, not, ◌&&◌, T, leb, take, drop}
use Rattle.std.proofs.Math.Path.{sym}
use Rattle.std.proofs.Common.{ap, subst, ◌∙◌, length-take-le, eq-eqb, ne_eqb}
use mathlib.Core.List.{List, [], ◌∷◌, map}
use Prim.Native.Nat.{ℕ, suc, ◌≤◌}
use native.Mathlib.Omega.{arith}
use Rattle.std.proofs.Math.Dec.{eqb}
use Rattle.std.proofs.Math.ListN.{length}
use Rattle.std.proofs.lemmas.List.{length-map}
use Rattle.rules.specs.State as S
use Rattle.rules.specs.Queues.{empty}
use Rattle.rules.specs.Range.{all, mastership_fits, request_fits, response_fits, write_fits}
use Rattle.rules_laws.specs.All.{All}
use Rattle.rules_laws.specs.Tests.{Is, is-map, ◌&◌, as-is, is_le, is_eq, is_all}
use Rattle.rules_laws.specs.Lists.{all-with, all-each}
use Rattle.step_parts.specs.Hold.{hold_mastership, hold_request, hold_response, hold_write}
use Rattle.step_parts.specs.declared.Mastership.{Mastership}
use Rattle.step_parts.specs.declared.Request.{Request}
use Rattle.step_parts.specs.declared.Response.{Response}
use Rattle.step_state.specs.Tidy.{no_message, no_status, tidy_mastership, blank_mastership, tidy_request, blank_request, tidy_response, blank_response, tidy_places, any_write, blank_write}
use Rattle.step_parts.specs.declared.Write.{Write}
use Rattle.step_bridge.specs.Sized.{SizedMastership}
use Rattle.step_bridge.specs.Rows.{Any}
use Rattle.step_range_queues.specs.Tests.{places_test, event_test, blank_test, request_test, status_test, response_test}
use Rattle.step_range.specs.Tests.{write_test}
use Rattle.step_range.specs.Places.{all-mapped, all-unmapped, is-places-test}
use Rattle.step_range.specs.Masterships.{is-event, is-blank}

-- ---- any queue

-- The elements of a queue: what the code tests of one in use and of one behind, and what that says of what is known.
pub record Element (A B : Type 0) : Type 1 where
  pub hold : B → A
  pub Known : B → Type 0
  pub used : B → Bool
  pub behind : B → Bool
  pub tidy : B → Bool
  pub blank : B → Bool
  pub fits : A → Bool
  pub is-used : (x : B) → Known x → Is (used x) (T (tidy x) × T (fits (hold x)))
  pub is-behind : (x : B) → Known x → Is (behind x) (T (blank x))

-- The list that the places in use hold is no longer than there are places, and its elements fit.
abbrev pub list_fits : {A : Type 0} → ℕ → (A → Bool) → List A → Bool
list_fits size fits q = leb (length q) size && all fits q

module _ {A B : Type 0} (e : Element A B) (size : ℕ) (l : List B) (sized : length l ≡ size) (known : All e.Known l) (d : B) (len : ℕ) where
  abbrev in_use : List A
  in_use = map e.hold (take len l)

  -- What the test of the places finds, and what the specification asks.
  abbrev Found : Type 0
  Found = (len ≤ size) × (All (λ x. T (e.tidy x) × T (e.fits (e.hold x))) (take len l) × All (λ x. T (e.blank x)) (drop len l))

  abbrev Asked : Type 0
  Asked = T (tidy_places size e.tidy e.blank l len) × T (list_fits size e.fits in_use)

  is-tidy : Is (tidy_places size e.tidy e.blank l len) (((len ≤ size) × All (λ x. T (e.tidy x)) (take len l)) × All (λ x. T (e.blank x)) (drop len l))
  unfolding tidy_places
  is-tidy = is_le len size & is_all (λ x. as-is (e.tidy x)) (take len l) & is_all (λ x. as-is (e.blank x)) (drop len l)

  is-fitting : Is (list_fits size e.fits in_use) ((length in_use ≤ size) × All (λ x. T (e.fits x)) in_use)
  is-fitting = is_le (length in_use) size & is_all (λ x. as-is (e.fits x)) in_use

  pub held-length : len ≤ size → length in_use ≡ len
  held-length h = length-map (take len l) e.hold ∙ length-take-le len l (omega arith)

  pub is-queue : Is (places_test size e.used e.behind d l len) Asked
  is-queue = is-map there back
      (is-places-test e.used e.behind d l len size sized e.Known (λ x. T (e.tidy x) × T (e.fits (e.hold x))) (λ x. T (e.blank x)) e.is-used e.is-behind known)
    where
      there : Found → Asked
      there t = let n = held-length t.0 in let h : len ≤ size = t.0 in (
        is-tidy.from ((t.0, all-each (λ x a. a.0) (take len l) t.1.0), t.1.1),
        is-fitting.from (omega arith, all-mapped (λ x. T (e.fits x)) e.hold (take len l) (all-each (λ x a. a.1) (take len l) t.1.0)),
      )

      back : Asked → Found
      back t = let a = is-tidy.to t.0 in let b = is-fitting.to t.1 in
          (a.0.0, (all-with (λ x p q. (p, q)) (take len l) a.0.1 (all-unmapped (λ x. T (e.fits x)) e.hold (take len l) b.1), a.1))

  pub none-fits : in_use ≡ [] → T (list_fits size e.fits in_use)
  unfolding all
  none-fits h = rw h ((is_le 0 size & as-is true).from (omega arith, tt))

  pub empty-held : len ≤ size → empty in_use ≡ eqb len 0
  unfolding empty
  empty-held h = go (in_use) (held-length h)
    where
      go : (q : List A) → length q ≡ len → empty q ≡ eqb len 0
      go [] z = sym (eq-eqb len 0 (sym z))
      go (x ∷ q) z = sym (ne_eqb len 0 (λ o. let y : suc (length q) ≡ len = z in omega arith))

  -- A queue of which no place is in use.
  pub is_none : Is (all e.blank l && eqb len 0) (T (tidy_places size e.tidy e.blank l len) × (in_use ≡ []))
  is_none = is-map there back (is_all (λ x. as-is (e.blank x)) l & is_eq len 0)
    where
      there : All (λ x. T (e.blank x)) l × (len ≡ 0) → T (tidy_places size e.tidy e.blank l len) × (in_use ≡ [])
      there t = (
        is-tidy.from (
          ((let z : len ≡ 0 = t.1 in omega arith), subst (λ (k : ℕ). All (λ x. T (e.tidy x)) (take k l)) (sym t.1) tt),
          subst (λ (k : ℕ). All (λ x. T (e.blank x)) (drop k l)) (sym t.1) t.0,
        ),
        ap (λ (k : ℕ). map e.hold (take k l)) t.1,
      )

      back : T (tidy_places size e.tidy e.blank l len) × (in_use ≡ []) → All (λ x. T (e.blank x)) l × (len ≡ 0)
      back t =
          let a = is-tidy.to t.0 in
          let z : len ≡ 0 = sym (held-length a.0.0) ∙ ap length t.1 in
          (subst (λ (k : ℕ). All (λ x. T (e.blank x)) (drop k l)) z a.1, z)

-- ---- the three queues and the history

abbrev pub event : ℕ → Element S.Mastership Mastership
event n = record {
  hold = hold_mastership;
  Known = SizedMastership;
  used = event_test n;
  behind = blank_test;
  tidy = tidy_mastership;
  blank = blank_mastership;
  fits = mastership_fits n;
  is-used = is-event n;
  is-behind = is-blank;
}

pub is-request : (r : Request) → Any r → Is (request_test r) (T (tidy_request r) × T (request_fits (hold_request r)))
unfolding request_test
is-request r k = as-is (tidy_request r) & as-is (request_fits (hold_request r))

abbrev pub request : Element S.Request Request
request = record {
  hold = hold_request;
  Known = Any;
  used = request_test;
  behind = blank_request;
  tidy = tidy_request;
  blank = blank_request;
  fits = request_fits;
  is-used = is-request;
  is-behind = λ r k. as-is (blank_request r);
}

pub is-response : (r : Response) → Any r → Is (response_test r) (T (tidy_response r) × T (response_fits (hold_response r)))
unfolding response_test status_test tidy_response response_fits
is-response r k =
    let a = not (no_message r.message) in
    let b = not (no_status r.status) in
    is-map (λ t. ((as-is a & as-is b).from (t.0, t.1.0), t.1.1)) (λ h. let m = (as-is a & as-is b).to h.0 in (m.0, (m.1, h.1)))
    (as-is a & (as-is b & as-is (response_fits (hold_response r))))

abbrev pub response : Element S.Response Response
response = record {
  hold = hold_response;
  Known = Any;
  used = response_test;
  behind = blank_response;
  tidy = tidy_response;
  blank = blank_response;
  fits = response_fits;
  is-used = is-response;
  is-behind = λ r k. as-is (blank_response r);
}

abbrev pub accepted : ℕ → Element S.Write Write
accepted n = record {
  hold = hold_write;
  Known = Any;
  used = write_test n;
  behind = blank_write;
  tidy = any_write;
  blank = blank_write;
  fits = write_fits n;
  is-used = λ e k. is-map (λ t. (tt, t)) (λ h. h.1) (as-is (write_test n e));
  is-behind = λ e k. as-is (blank_write e);
}
