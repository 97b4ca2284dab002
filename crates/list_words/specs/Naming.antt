-- The kind that has a name, as the code finds it. Assumes nothing.
use Rattle.std.specs.Prelude.{◌≡◌, Bool, true, false, cond, List, [], Some, None, ℕ, ◌+◌, ◌≤◌, ◌<◌, length, drop}
use Rattle.std.proofs.Math.Path.{refl}
use Rattle.std.proofs.Common.{sym, ap, ◌∙◌, add-one, arith, drop_of_length-le, drop-cons}
use Rattle.any_words.specs.Text.{same}
use Rattle.list_words.specs.Names.{names, name_of}
use Rattle.list_words.specs.Line.{place_of, kind_named}

-- The names before a kind are others.
pub record Naming (word : List ℕ) (kind : ℕ) : Type 0 where
  pub few : kind ≤ 14
  pub left : place_of word kind (drop kind names) ≡ kind_named word

count : length names ≡ 14
unfolding names
count = refl

module _ (word : List ℕ) where
  pub naming-starts : Naming word 0
  unfolding kind_named
  naming-starts = record { few = omega arith; left = refl }

  module _ {kind : ℕ} (m : Naming word kind) where
    pub naming-ends : 13 < kind → None ≡ kind_named word
    naming-ends h = let n = count in ap (place_of word kind) (sym (drop_of_length-le names {i = kind} (omega arith))) ∙ m.left

    module _ (h : kind ≤ 13) {b : Bool} (is : b ≡ same word (name_of kind)) where
      here : cond b (Some kind) (place_of word (kind + 1) (drop (kind + 1) names)) ≡ kind_named word
      here = let n = count in rw (is, add-one kind) (ap (place_of word kind) (sym (drop-cons names kind [] (omega arith))) ∙ m.left)

      pub naming-stops : b ≡ true → Some kind ≡ kind_named word
      naming-stops e = ap (λ (c : Bool). cond c (Some kind) (place_of word (kind + 1) (drop (kind + 1) names))) (sym e) ∙ here

      pub naming-more : b ≡ false → Naming word (kind + 1)
      naming-more e = record { few = omega arith; left = ap (λ (c : Bool). cond c (Some kind) (place_of word (kind + 1) (drop (kind + 1) names))) (sym e) ∙ here }
