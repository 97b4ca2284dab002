-- What is left of a row of places, and looking for something among it. Assumes nothing.
use Rattle.std.specs.Prelude.{◌≡◌, refl, Bool, true, false, not, List, ◌∷◌, ℕ, zero, suc, ◌+◌, ◌-◌, ◌≤◌, ◌<◌, length, get_or, drop}
use Rattle.std.proofs.Common.{sym, ap, ◌∙◌, arith, length-drop, drop_of_length-le, drop-cons, get_or-drop, ext_get_or}
use Rattle.std.proofs.Math.Option.{Option, none, some, map}
use Rattle.std.proofs.lemmas.Bool.{not-true, not-false}
use Rattle.merge_verdict.specs.Verdict.{Pulled, taken, blocked, missing, behind, met, pull}
use Rattle.any_search.specs.Places.{from, found, seek}
use Rattle.any_search.specs.Seek.{Sought}
use Rattle.merge_places.specs.Row.{Moved}

pub nowhere : {B : Type 0} {x : ℕ} → none ≡ some x → B
nowhere e = let z : ◌≡◌ {A = ℕ} 0 1 = cc in absurd (omega arith)

-- A search from i on is one over the places of the row.
pub seek-row : (test : ℕ → Bool) (places : List ℕ) (n i : ℕ) → i + n ≡ length places
    → seek test (drop i places) ≡ map (λ q. get_or places q 0) (seek (λ q. test (get_or places q 0)) (from i n))
seek-row test places zero i e = ap (seek test) (drop_of_length-le places {i = i} (omega arith))
seek-row test places (suc n) i e = ap (seek test) (drop-cons places i 0 (omega arith)) ∙ go (test (get_or places i 0)) _ _ (seek-row test places n (suc i) (omega arith))
  where
    go : (b : Bool) (o r : Option ℕ) → o ≡ map (λ q. get_or places q 0) r → found b (get_or places i 0) o ≡ map (λ q. get_or places q 0) (found b i r)
    go true o r h = refl
    go false o r h = h

-- ---- looking for something among what is left: the first that it may not pass decides

module _ (free wanted : ℕ → Bool) (places : List ℕ) {start at : ℕ} (s : Sought (λ q. not (free (get_or places q 0))) start (length places) at) where
  -- What comes of it at each place up to `at`, if it comes at `at` and each that is passed hands it on.
  passing : (comes : ℕ → Pulled ℕ) → ((i : ℕ) → start ≤ i → i < at → behind (get_or places i 0) (comes (suc i)) ≡ comes i) → pull free wanted (drop at places) ≡ comes at
      → (n i : ℕ) → i + n ≡ at → start ≤ i → pull free wanted (drop i places) ≡ comes i
  passing comes step here zero i e h = let same : i ≡ at = omega arith in ap (λ (k : ℕ). pull free wanted (drop k places)) same ∙ here ∙ ap comes (sym same)
  passing comes step here (suc n) i e h =
      let x = get_or places i 0 in
      let rest = drop (suc i) places in
      ap (pull free wanted) (drop-cons places i 0 (let z = s.high in omega arith))
      ∙ ap (λ (b : Bool). met b (wanted x) x rest (pull free wanted rest)) (not-false (free x) (s.none i h (omega arith)))
      ∙ ap (behind x) (passing comes step here n (suc i) (omega arith) (omega arith)) ∙ step i h (omega arith)

  all-passed : (comes : ℕ → Pulled ℕ) → ((i : ℕ) → start ≤ i → i < at → behind (get_or places i 0) (comes (suc i)) ≡ comes i) → pull free wanted (drop at places) ≡ comes at
      → pull free wanted (drop start places) ≡ comes start
  all-passed comes step here = passing comes step here (at - start) start (let l = s.low in omega arith) (omega arith)

  pub pull-missing : length places ≤ at → pull free wanted (drop start places) ≡ missing
  pull-missing h = all-passed (λ i. missing) (λ i l u. refl) (ap (pull free wanted) (drop_of_length-le places h))

  module _ (h : at < length places) where
    stops-here : {b : Bool} → wanted (get_or places at 0) ≡ b → pull free wanted (drop at places) ≡ met false b (get_or places at 0) (drop (suc at) places) missing
    stops-here {b} e =
        ap (pull free wanted) (drop-cons places at 0 h)
        ∙ ap (λ (f : Bool). met f (wanted (get_or places at 0)) (get_or places at 0) (drop (suc at) places) (pull free wanted (drop (suc at) places))) (not-true (free (get_or places at 0)) (s.hit h))
        ∙ go (wanted (get_or places at 0)) e
      where
        go : (c : Bool) → c ≡ b → met false c (get_or places at 0) (drop (suc at) places) (pull free wanted (drop (suc at) places)) ≡ met false b (get_or places at 0) (drop (suc at) places) missing
        go true i = ap (λ (f : Bool). met false f (get_or places at 0) (drop (suc at) places) missing) i
        go false i = ap (λ (f : Bool). met false f (get_or places at 0) (drop (suc at) places) missing) i

    pub pull-blocked : wanted (get_or places at 0) ≡ false → pull free wanted (drop start places) ≡ blocked (get_or places at 0)
    pull-blocked e = all-passed (λ i. blocked (get_or places at 0)) (λ i l u. refl) (stops-here e)

    -- What is left then stands in the row after the move.
    pub pull-taken : {after : List ℕ} → Moved start at places after → wanted (get_or places at 0) ≡ true → pull free wanted (drop start places) ≡ taken (drop (suc start) after)
    pull-taken {after} m e = all-passed (λ i. taken (drop (suc i) after)) step (stops-here e ∙ ap taken same-behind)
      where
        step : (i : ℕ) → start ≤ i → i < at → taken (get_or places i 0 ∷ drop (suc (suc i)) after) ≡ taken (drop (suc i) after)
        step i l u = ap (λ (x : ℕ). taken (x ∷ drop (suc (suc i)) after)) (sym (m.up i l u)) ∙ ap taken (sym (drop-cons after (suc i) 0 (let z = m.size in omega arith)))

        same-behind : drop (suc at) places ≡ drop (suc at) after
        same-behind = ext_get_or 0 (drop (suc at) places) (drop (suc at) after) (length-drop (suc at) places ∙ ap (λ (n : ℕ). n - suc at) (sym m.size) ∙ sym (length-drop (suc at) after))
            (λ i b. get_or-drop (suc at) places i 0 ∙ sym (m.high (suc at + i) (omega arith)) ∙ sym (get_or-drop (suc at) after i 0))
