-- A place is taken out of a row: the loop that moves the others up. Assumes nothing.
use Rattle.std.specs.Prelude.{◌≡◌, refl, List, ℕ, suc, ◌-◌, ◌≤◌, ◌<◌, length, get_or, set}
use Rattle.std.proofs.Common.{ap, ◌∙◌, arith, length-set, get_or-set_same, get_or-set_other}
use Rattle.std.proofs.Math.Decide.{dec_lt}
use Rattle.merge_places.specs.Row.{Placed, Moved}

pub moved_none : (at : ℕ) (l : List ℕ) → Moved at at l l
moved_none at l = record { size = refl; low = λ q h. refl; up = λ q h k. absurd (omega arith); high = λ q h. refl }

module _ {i at : ℕ} {before after : List ℕ} (m : Moved i at before after) where
  pub moved_more : 0 < i → i ≤ at → at < length before → Moved (i - 1) at before (set after i (get_or after (i - 1) 0))
  moved_more some h inside = record {
    size = length-set after i x ∙ m.size;
    low = λ q k. other q (λ e. omega arith) ∙ m.low q (omega arith);
    up = λ q l u. go q l u (dec_lt q i);
    high = λ q k. other q (λ e. omega arith) ∙ m.high q k;
  }
    where
      x : ℕ
      x = get_or after (i - 1) 0

      other : (q : ℕ) → (q ≡ i → ⊥) → get_or (set after i x) q 0 ≡ get_or after q 0
      other q d = get_or-set_other after i q x 0 d

      go : (q : ℕ) → i - 1 ≤ q → q < at → Dec (q < i) → get_or (set after i x) (suc q) 0 ≡ get_or before q 0
      go q l u (yes b) =
          let next : suc q ≡ i = omega arith in
          let this : i - 1 ≡ q = omega arith in
          ap (λ (k : ℕ). get_or (set after i x) k 0) next ∙ get_or-set_same after i x 0 (let z = m.size in omega arith) ∙ ap (λ (k : ℕ). get_or after k 0) this ∙ m.low q (omega arith)
      go q l u (no b) = other (suc q) (λ e. omega arith) ∙ m.up q (omega arith) u

  -- A row of places stays one.
  pub moved-placed : {n : ℕ} → at < n → Placed before n → Placed after n
  moved-placed {n} h p = record { size = m.size ∙ p.size; inside = λ q k. go q k (dec_lt i q) (dec_lt at q) }
    where
      go : (q : ℕ) → q < n → Dec (i < q) → Dec (at < q) → get_or after q 0 < n
      go q k y (yes b) = let e = m.high q b in let f = p.inside q k in omega arith
      go q k (no a) (no b) = let e = m.low q (omega arith) in let f = p.inside q k in omega arith
      go q k (yes a) (no b) =
          let next : suc (q - 1) ≡ q = omega arith in
          let e = m.up (q - 1) (omega arith) (omega arith) in
          let f = p.inside (q - 1) (omega arith) in
          let g = ap (λ (i : ℕ). get_or after i 0) next in
          omega arith
