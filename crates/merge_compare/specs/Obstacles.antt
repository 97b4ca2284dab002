-- What stands in the way, from the searches that the code makes. Assumes nothing.
use Rattle.std.specs.Prelude.{◌≡◌, List, ℕ, suc, ◌+◌, ◌-◌, ◌≤◌, ◌<◌, length, get_or, drop}
use Rattle.std.proofs.Common.{sym, ap, ap₂, subst, ◌∙◌, add-one, arith}
use Rattle.std.proofs.Math.Option.{Option, some, map}
use Rattle.rules.specs.Step.{Event}
use Rattle.merge_verdict.specs.Verdict.{same_event}
use Rattle.any_search.specs.Places.{from, seek}
use Rattle.any_search.specs.Seek.{Sought, seek-some, seek-none}
use Rattle.merge_compare.specs.Compare.{order, only_first, only_second, equal, obstacle}
use Rattle.merge_compare.specs.declared.Verdict.{Verdict}
use Rattle.merge_compare.specs.Left.{seek-row}

-- Record a of the first list may not pass record b of the second, of which the row from a on has what is left.
abbrev pub hindrance : ℕ → (ℕ → Event) → (ℕ → Event) → ℕ → List ℕ → ℕ → ℕ → Verdict
hindrance count here there n places a b =
    obstacle count here there a b (seek (equal count here there a) (drop a places)) (seek (λ x. equal count here there x b) (from (suc a) (n - (a + 1))))

-- `e` is record a, as it was read.
module _ (count : ℕ) (here there : ℕ → Event) (n : ℕ) (places : List ℕ) (a b : ℕ) (inside : a < n) (row : a ≤ length places) {e : Event} (is : e ≡ here a) {r : ℕ}
    (s : Sought (λ q. same_event e (there (get_or places q 0))) a (length places) r) where
  -- the search of the code, as one over what is left
  searched : {o : Option ℕ} → seek (λ q. equal count here there a (get_or places q 0)) (from a (length places - a)) ≡ o → map (λ q. get_or places q 0) o ≡ seek (equal count here there a) (drop a places)
  searched e = sym (seek-row (equal count here there a) places (length places - a) a (omega arith) ∙ ap (map (λ q. get_or places q 0)) e)

  among : Sought (λ q. equal count here there a (get_or places q 0)) a (length places) r
  among = subst (λ (x : Event). Sought (λ q. same_event x (there (get_or places q 0))) a (length places) r) is s

  pub no_second : length places ≤ r → only_first a ≡ hindrance count here there n places a b
  no_second h =
      ap (λ (o : Option ℕ). obstacle count here there a b o (seek (λ x. equal count here there x b) (from (suc a) (n - (a + 1)))))
      (searched (seek-none (λ q. equal count here there a (get_or places q 0)) (length places) r a (length places - a) (omega arith) among h))

  -- `g` is record b.
  module _ (h : r < length places) {g : Event} (is' : g ≡ there b) {f : ℕ} (t : Sought (λ x. same_event (here x) g) (a + 1) n f) where
    second-there : some (get_or places r 0) ≡ seek (equal count here there a) (drop a places)
    second-there = searched (seek-some (λ q. equal count here there a (get_or places q 0)) (length places) r a (length places - a) (omega arith) among h)

    behind-it : Sought (λ x. equal count here there x b) (suc a) n f
    behind-it = subst (λ (x : Event). Sought (λ k. same_event (here k) x) (suc a) n f) is' (rw (add-one a) at t)

    pub no-first : n ≤ f → only_second b ≡ hindrance count here there n places a b
    no-first k = ap₂ (obstacle count here there a b) second-there (sym (seek-none (λ x. equal count here there x b) n f (suc a) (n - (a + 1)) (omega arith) behind-it k))

    pub crossed : f < n → order a f (get_or places r 0) b ≡ hindrance count here there n places a b
    crossed k = ap₂ (obstacle count here there a b) second-there (sym (seek-some (λ x. equal count here there x b) n f (suc a) (n - (a + 1)) (omega arith) behind-it k))
