-- What a host is told, by the tests that the code makes; and four places put one behind the other. Assumes nothing.
use Rattle.std.specs.Prelude.{◌≡◌, ◌≢◌, List, [], ◌∷◌, ◌++◌, ℕ, ◌+◌, ◌≤◌, ◌<◌, length, set}
use Rattle.std.proofs.Common.{sym, ap, ◌∙◌, add-one, arith}
use Rattle.std.proofs.lemmas.List.Edits.{sets}
use borrow.Author.Tests.{eq-eqb, ne_eqb, le-leb, lt-leb}
use Rattle.rules.specs.Codes.{out_too_short}
use Rattle.run_lists.specs.EventList.{refusal, over}
use Rattle.run_lists.specs.Written.{over-more}
use Rattle.merge_compare.specs.Compared.{compared}
use Rattle.merge_call.specs.Reply.{places_length, two_bytes, four_places, Reply, given, reply}

-- ---- the bytes

pub two-stores : (l : List ℕ) (at a b : ℕ) → set (set l at a) (at + 1) b ≡ sets l at (a ∷ b ∷ [])
two-stores l at a b = rw (add-one at)

pub four-places : (p q r s : ℕ) (l : List ℕ) → places_length ≤ length l
    → sets (sets (sets (sets l 0 (two_bytes p)) 2 (two_bytes q)) 4 (two_bytes r)) 6 (two_bytes s) ≡ over (four_places p q r s) l
four-places p q r s l h =
    let a = two_bytes p in
    let b = two_bytes q in
    let c = two_bytes r in
    let d = two_bytes s in
    ap (λ (x : List ℕ). sets (sets (sets x 2 b) 4 c) 6 d) (over-more [] a l (omega arith))
    ∙ ap (λ (x : List ℕ). sets (sets x 4 c) 6 d) (over-more a b l (omega arith))
    ∙ ap (λ (x : List ℕ). sets x 6 d) (over-more (a ++ b) c l (omega arith))
    ∙ over-more (a ++ b ++ c) d l (omega arith)

-- ---- the answers

module _ (first second out : List ℕ) where
  module _ (short : length out < places_length) where
    pub reply-short : refusal first ≡ 0 → reply first second out ≡ record { returned = out_too_short; places = out }
    unfolding reply
    reply-short h = simp (lt-leb places_length (length out) short, eq-eqb (refusal first) 0 h)

    pub reply-first : refusal first ≢ 0 → reply first second out ≡ record { returned = refusal first; places = out }
    unfolding reply
    reply-first h = simp (lt-leb places_length (length out) short, ne_eqb (refusal first) 0 h)

  pub reply-long : places_length ≤ length out → reply first second out ≡ given (compared first second) out
  unfolding reply
  reply-long long = simp (le-leb places_length (length out) long)

-- What is returned and the places, each by itself.
pub reply-both : {t u : Reply} → t ≡ u → (u.returned ≡ t.returned) × (u.places ≡ t.places)
reply-both e = (ap (λ (x : Reply). x.returned) (sym e), ap (λ (x : Reply). x.places) (sym e))
