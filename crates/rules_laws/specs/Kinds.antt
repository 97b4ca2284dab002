-- What is asked of the kinds, by their numbers. Assumes nothing.
use Rattle.std.specs.Prelude.{◌≡◌, refl, List, [], ◌∷◌, ◌++◌, map, ℕ, suc, ◌+◌, ◌-◌, ◌≤◌, ◌<◌, get_or, replicate}
use Rattle.std.proofs.Common.{sym, ap, ◌∙◌, arith, get_or-append-add}
use Rattle.std.proofs.Math.Option.{Option, none, some}
use Rattle.std.proofs.lemmas.List.{get_or-replicate}
use Rattle.std.proofs.Math.ListN.{get_or-append, get_or-map}
use Rattle.rules.specs.Rules.{Kind, join, leave, learns, send_update, receive_update, send_write, receive_write, connect, close, handle_update, handle_write, shutdown, startup}
use Rattle.rules.specs.Step.{kinds, kind_of, number_of}

-- Where the answer is x for each of the eleven kinds of a node, and y for both kinds of the switch's power.
module _ {A : Type 0} (f : Option Kind → A) (x y : A) (alike : map f kinds ≡ f none ∷ replicate 11 x ++ replicate 2 y) where
  at-number : (k i : ℕ) → k ≡ i → f (kind_of k) ≡ get_or (f none ∷ replicate 11 x ++ replicate 2 y) i (f none)
  at-number k i e = sym (get_or-map f kinds k none) ∙ ap (λ (l : List A). get_or l k (f none)) alike ∙ ap (λ (j : ℕ). get_or (f none ∷ replicate 11 x ++ replicate 2 y) j (f none)) e

  pub of_node : (k : ℕ) → 1 ≤ k → k < 12 → f (kind_of k) ≡ x
  of_node k h j =
      at-number k (suc (k - 1)) (omega arith)
      ∙ get_or-append (replicate 11 x) (replicate 2 y) (f none) (k - 1) (omega arith)
      ∙ get_or-replicate 11 (k - 1) x (f none) (omega arith)

  pub of-power : (k : ℕ) → 12 ≤ k → k < 14 → f (kind_of k) ≡ y
  of-power k h j =
      at-number k (12 + (k - 12)) (omega arith)
      ∙ get_or-append-add (f none ∷ replicate 11 x) (replicate 2 y) (k - 12) (f none)
      ∙ get_or-replicate 2 (k - 12) y (f none) (omega arith)

  pub of_none : (k : ℕ) → 14 ≤ k → f (kind_of k) ≡ f none
  of_none k h = at-number k (14 + (k - 14)) (omega arith) ∙ get_or-append-add (f none ∷ replicate 11 x ++ replicate 2 y) [] (k - 14) (f none)

-- Each kind stands at its number.
pub of_number : (k : Kind) → kind_of (number_of k) ≡ some k
of_number join = refl
of_number leave = refl
of_number learns = refl
of_number send_update = refl
of_number receive_update = refl
of_number send_write = refl
of_number receive_write = refl
of_number connect = refl
of_number close = refl
of_number handle_update = refl
of_number handle_write = refl
of_number shutdown = refl
of_number startup = refl
