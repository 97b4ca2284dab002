-- Lists that grow at their end. Assumes nothing.
use Rattle.std.specs.Prelude.{◌≡◌, refl, ℕ}
use mathlib.Core.List.{List, [], ◌∷◌, ◌++◌, append-nil, Memᴰ}
use Rattle.std.proofs.Common.{arith}
use Rattle.std.proofs.Math.Seq.{append_snoc}
use Rattle.rules_laws.specs.All.{All}

module _ {A : Type 0} where
  pub nothing-before : (before behind : List A) → before ++ behind ≡ [] → before ≡ []
  nothing-before [] behind e = refl
  nothing-before (y ∷ before) behind e = let z : ◌≡◌ {A = ℕ} 0 1 = cc in absurd (omega arith)

  -- A first part of a list that x has joined is all of it, or a first part of the list without x.
  pub data FirstPart (before l : List A) (x : A) : Type 0 where
    all : before ≡ l ++ (x ∷ []) → FirstPart before l x
    part : (behind : List A) → before ++ behind ≡ l → FirstPart before l x

  pub first_part : (before behind l : List A) (x : A) → before ++ behind ≡ l ++ (x ∷ []) → FirstPart before l x
  first_part [] behind l x e = part l refl
  first_part (y ∷ before) behind [] x e = let n = nothing-before before behind (cc) in all (cc)
  first_part (y ∷ before) behind (z ∷ l) x e = go (first_part before behind l x (cc))
    where
      go : FirstPart before l x → FirstPart (y ∷ before) (z ∷ l) x
      go (all p) = all (cc)
      go (part rest p) = part rest (cc)

  -- Lists that end in the same are the same before it.
  pub same_end : (k l : List A) (w x : A) → k ++ (w ∷ []) ≡ l ++ (x ∷ []) → (k ≡ l) × (w ≡ x)
  same_end [] [] w x e = (refl, cc)
  same_end [] (z ∷ l) w x e = let n = nothing-before l (x ∷ []) (cc) in let o : ◌≡◌ {A = ℕ} 0 1 = cc in absurd (omega arith)
  same_end (y ∷ k) [] w x e = let n = nothing-before k (w ∷ []) (cc) in let o : ◌≡◌ {A = ℕ} 0 1 = cc in absurd (omega arith)
  same_end (y ∷ k) (z ∷ l) w x e = let h = same_end k l w x (cc) in (cc, h.1)

  -- What holds of the empty list, and still does when one more joins, holds of every list.
  pub one_by_one : (P : List A → Type 0) → P [] → ((l : List A) (x : A) → P l → P (l ++ (x ∷ []))) → (l : List A) → P l
  one_by_one P p f l = go [] l p
    where
      go : (before behind : List A) → P before → P (before ++ behind)
      go before [] p = rw append-nil p
      go before (x ∷ behind) p = rw append_snoc at (go (before ++ (x ∷ [])) behind (f before x p))

  pub all-member : (P : A → Type 0) (x : A) (l : List A) → All P l → Memᴰ x l → P x
  all-member P x [] h x3 = elim x3 [ ]
  all-member P x (y ∷ l) h (Memᴰ.head e) = rw e h.0
  all-member P x (y ∷ l) h (Memᴰ.tail m) = all-member P x l h.1 m
