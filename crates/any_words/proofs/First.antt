-- What `position` finds in the rest of a list is what is sought in the list.
use Rattle.std.specs.Prelude.{◌≡◌, Bool, cond, List, Option, Some, None, ℕ, ◌+◌, ◌-◌, ◌≤◌, ◌<◌, ltb, length, get_or, take, drop}
use Rattle.std.specs.List.{position_or_len}
use Rattle.std.proofs.Math.Path.{subst}
use Rattle.std.proofs.Common.{sym, ap, ◌∙◌, arith, take_all, length-drop, get_or-drop, lt-ltb, le-ltb}
use Rattle.std.proofs.Math.Decide.{dec_lt}
use Rattle.std.proofs.lemmas.List.Sums.{fails_before_first, passes_at_first, prefix_len-le-length}
use Rattle.std.proofs.Math.Bool.{not}
use Rattle.any_search.specs.Seek.{Sought}

module _ (test : ℕ → Bool) (l : List ℕ) (a : ℕ) (h : a ≤ length l) where
  steps : ℕ
  steps = position_or_len test (drop a l)

  found : Sought (λ k. test (get_or l k 0)) a (length l) (a + steps)
  unfolding steps
  found =
      let n = length-drop a l in
      let few = prefix_len-le-length (λ x. not (test x)) (drop a l) in
      record {
        low = omega arith;
        high = omega arith;
        none = λ k low u.
            let there : a + (k - a) ≡ k = omega arith in
            ap (λ (i : ℕ). test (get_or l i 0)) (sym there) ∙ ap test (sym (get_or-drop a l (k - a) 0)) ∙ fails_before_first test (drop a l) (k - a) 0 (omega arith);
        hit = λ u. ap test (sym (get_or-drop a l steps 0)) ∙ passes_at_first test (drop a l) 0 (omega arith);
      }

  module _ {r : Option ℕ}
      (e : r ≡ cond (ltb (position_or_len test (take (length l - a) (drop a l))) (length (take (length l - a) (drop a l)))) (Some (position_or_len test (take (length l - a) (drop a l)))) None) where
    is : r ≡ cond (ltb steps (length (drop a l))) (Some steps) None
    unfolding steps
    is =
        let n = length-drop a l in
        e ∙ ap (λ (m : List ℕ). cond (ltb (position_or_len test m) (length m)) (Some (position_or_len test m)) None) (take_all (length l - a) (drop a l) (omega arith))

    pub found-some : {n : ℕ} → r ≡ Some n → Sought (λ k. test (get_or l k 0)) a (length l) (a + n)
    found-some {n} some = go (dec_lt steps (length (drop a l)))
      where
        go : Dec (steps < length (drop a l)) → Sought (λ k. test (get_or l k 0)) a (length l) (a + n)
        go (yes k) = let same : n ≡ steps = (let z = rw (lt-ltb steps (length (drop a l)) k) at is in cc) in rw same found
        go (no k) = absurd (let z = rw (le-ltb steps (length (drop a l)) (omega arith)) at is in cc)

    pub found-none : r ≡ None → Sought (λ k. test (get_or l k 0)) a (length l) (length l)
    found-none none = go (dec_lt steps (length (drop a l)))
      where
        go : Dec (steps < length (drop a l)) → Sought (λ k. test (get_or l k 0)) a (length l) (length l)
        go (yes k) = absurd (let z = rw (lt-ltb steps (length (drop a l)) k) at is in cc)
        go (no k) =
            let n = length-drop a l in
            let high = found.high in
            let end : a + steps ≡ length l = omega arith in
            subst (λ (x : ℕ). Sought (λ k. test (get_or l k 0)) a (length l) x) end found
