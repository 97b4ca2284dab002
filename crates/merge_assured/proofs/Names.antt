-- What the comparison names: two dependent records that stand in the other order, or a record that one list lacks. Assumes nothing.
use Rattle.std.specs.Prelude.{◌≡◌, Bool, take}
use Rattle.std.proofs.Math.Path.{refl}
use Rattle.std.proofs.Common.{ap, subst, ◌∙◌, arith}
use Rattle.std.proofs.Math.Option.{Option, none, some}
use mathlib.Core.List.{List, [], ◌∷◌}
use Prim.Native.Nat.{ℕ, zero, suc, ◌+◌}
use Rattle.rules.specs.Step.{Event}
use Rattle.rules_exchange.specs.Independent.{independent}
use Rattle.run_lists.specs.EventList.{node_count, record_count, record_at, records}
use Rattle.merge_verdict.specs.Verdict.{Pulled, taken, blocked, missing}
use Rattle.merge_verdict.specs.Steps.{same_refl}
use Rattle.merge_letters.specs.Letters.{bit}
use Rattle.merge_compare.specs.declared.Verdict.{Verdict}
use Rattle.any_search.specs.Places.{from, found, seek}
use Rattle.merge_compare.specs.Compare.{same, order, only_first, only_second, free, equal, obstacle, looked, compare}
use Rattle.merge_compare.specs.Compared.{comparison}
use Rattle.merge_assured.specs.Assured.{times, Crossed, OrderNames, Lacked, OnlyNames}
use Rattle.merge_assured.specs.Times.{times-next, same-sym}
use Rattle.merge_assured.specs.Meaning.{compared-as}
use Rattle.merge_assured.specs.Blocked.{Rising, from-rising, sought-test, blocks, left_rising}
use Rattle.merge_assured.specs.Sorts.{alike, own, sort, looking, first-left, none_left, Left, left-next, next-left, next-ahead, gone, none_ahead}

module _ (first second : List ℕ) where
  abbrev count : ℕ
  count = node_count first

  abbrev here : ℕ → Event
  here = record_at first

  abbrev there : ℕ → Event
  there = record_at second

  abbrev n : ℕ
  n = record_count first

  abbrev m : ℕ
  m = record_count second

  abbrev LeftBehind : ℕ → List ℕ → Type 0
  LeftBehind = Left count here there n m

  -- Record p is blocked by s; it stands at r in the second list, and s stands at f in the first.
  crossing : (p k : ℕ) (qs : List ℕ) → p + suc k ≡ n → Rising qs → LeftBehind p qs → (s : ℕ) → looking count here there p qs ≡ blocked s
      → (r : ℕ) → seek (equal count here there p) qs ≡ some r → (f : ℕ) → seek (λ x. equal count here there x s) (from (suc p) k) ≡ some f → Crossed first second p f r s
  crossing p k qs h u left s e r i f j =
      let b = blocks (free count here there p) (equal count here there p) (own count here there p) s qs u e in
      let is = alike count here there f s (sought-test (λ x. equal count here there x s) (from (suc p) k) f j) in
      let at = alike count here there p r (sought-test (equal count here there p) qs r i) in
      let x = next-left count here there n m p qs left (here p) r i in
      let y = next-left count here there n m p qs left (there s) s (first-left count here there p s b.stops qs e) in
      let z = next-ahead count here there n m s k (suc p) f (omega arith) j in
      let one = times-next (there s) n here p (omega arith) in
      let none = ap bit (same-sym (here p) (there s) b.other) in
      record {
        stands-a = record { in-first = omega arith; in-second = x.0; alike = at; occurs = x.1 ∙ ap (λ (q : Event). times q (take r (records second))) at };
        stands_b = record {
          in-first = z.1;
          in-second = y.0;
          alike = is;
          occurs = ap (λ (q : Event). times q (take f (records first))) is ∙ (let z2 = z.2 in let y1 = y.1 in omega arith);
        };
        dependent = ap (independent count (here p)) is ∙ b.stops;
        before = let z0 = z.0 in omega arith;
        behind = b.before r i;
      }

  -- What a finding names.
  record Says (f : Verdict) : Type 0 where
    crossed : (a b a' b' : ℕ) → f ≡ order a b a' b' → Crossed first second a b a' b'
    lacked : (place : ℕ) → f ≡ only_first place → Lacked first second place
    lacked' : (place : ℕ) → f ≡ only_second place → Lacked second first place

  says_same : Says same
  says_same = record {
    crossed = λ a b a' b' e. absurd (cc);
    lacked = λ place e. absurd (cc);
    lacked' = λ place e. absurd (cc);
  }

  says-order : (a b a' b' : ℕ) → Crossed first second a b a' b' → Says (order a b a' b')
  says-order p f r s c = record {
    crossed = λ a b a' b' e.
        let x : p ≡ a = (let same : p + 1 ≡ a + 1 = cc in omega arith) in
        let y : f ≡ b = (let same : f + 1 ≡ b + 1 = cc in omega arith) in
        let z : r ≡ a' = (let same : r + 1 ≡ a' + 1 = cc in omega arith) in
        let w : s ≡ b' = (let same : s + 1 ≡ b' + 1 = cc in omega arith) in
        rw (← x, ← y, ← z, ← w) c;
    lacked = λ place e. absurd (cc);
    lacked' = λ place e. absurd (cc);
  }

  says_first : (p : ℕ) → Lacked first second p → Says (only_first p)
  says_first p l = record {
    crossed = λ a b a' b' e. absurd (cc);
    lacked = λ place e. (let x : p ≡ place = (let same : p + 1 ≡ place + 1 = cc in omega arith) in subst (Lacked first second) x l);
    lacked' = λ place e. absurd (cc);
  }

  says_second : (s : ℕ) → Lacked second first s → Says (only_second s)
  says_second s l = record {
    crossed = λ a b a' b' e. absurd (cc);
    lacked = λ place e. absurd (cc);
    lacked' = λ place e. (let x : s ≡ place = (let same : s + 1 ≡ place + 1 = cc in omega arith) in subst (Lacked second first) x l);
  }

  -- No record of p's sort is left in the second list.
  lacks-second : (p k : ℕ) (qs : List ℕ) → p + suc k ≡ n → LeftBehind p qs → seek (equal count here there p) qs ≡ none → Lacked first second p
  lacks-second p k qs h left i = record { inside = omega arith; fewer = gone count here there n m p qs left (here p) i }

  -- The first record of s's sort that is left, and none of them from p on in the first list.
  lacks-first : (p : ℕ) (qs : List ℕ) → LeftBehind p qs → (s : ℕ) → seek (sort count here there (there s)) qs ≡ some s
      → times (there s) (records first) ≡ times (there s) (take p (records first)) → Lacked second first s
  lacks-first p qs left s i e =
      let x = next-left count here there n m p qs left (there s) s i in
      record { inside = x.0; fewer = let z = x.1 in omega arith }

  hindered : (p k : ℕ) (qs : List ℕ) → p + suc k ≡ n → Rising qs → LeftBehind p qs → (s : ℕ) → looking count here there p qs ≡ blocked s
      → (o : Option ℕ) → seek (equal count here there p) qs ≡ o → (o' : Option ℕ) → seek (λ x. equal count here there x s) (from (suc p) k) ≡ o' → Says (obstacle count here there p s o o')
  hindered p k qs h u left s e none i o' j = says_first p (lacks-second p k qs h left i)
  hindered p k qs h u left s e (some r) i none j =
      let b = blocks (free count here there p) (equal count here there p) (own count here there p) s qs u e in
      let one = times-next (there s) n here p (omega arith) in
      let not-p = ap bit (same-sym (here p) (there s) b.other) in
      let none-behind = none_ahead count here there n m s k (suc p) (omega arith) j in
      says_second s (lacks-first p qs left s (first-left count here there p s b.stops qs e) (omega arith))
  hindered p k qs h u left s e (some r) i (some f) j = says-order p f r s (crossing p k qs h u left s e r i f j)

  says : (k p : ℕ) (qs : List ℕ) → p + k ≡ n → Rising qs → LeftBehind p qs → Says (compare count here there (from p k) qs)
  unfolding compare
  says zero p [] h u left = says_same
  says zero p (q ∷ qs) h u left =
      says_second q (lacks-first p (q ∷ qs) left q (ap (λ (c : Bool). found c q (seek (sort count here there (there q)) qs)) (same_refl (there q))) (none_ahead count here there n m q 0 p h refl))
  says (suc k) p qs h u left = go (looking count here there p qs) refl (says k (suc p))
    where
      go : (o : Pulled ℕ) → looking count here there p qs ≡ o
          → ((rest : List ℕ) → suc p + k ≡ n → Rising rest → LeftBehind (suc p) rest → Says (compare count here there (from (suc p) k) rest))
          → Says (looked count here there (compare count here there (from (suc p) k)) p (from (suc p) k) qs o)
      go (taken rest) i f = f rest (omega arith) (left_rising (free count here there p) (equal count here there p) qs rest u i) (left-next count here there n m p qs rest (omega arith) left i)
      go (blocked s) i f = hindered p k qs h u left s i (seek (equal count here there p) qs) refl (seek (λ x. equal count here there x s) (from (suc p) k)) refl
      go missing i f = says_first p (lacks-second p k qs h left (none_left count here there p qs i))

  -- Of the whole lists.
  compared-says : Says (comparison first second)
  compared-says = says n 0 (from 0 m) (omega arith) (from-rising 0 m) (λ e. refl)

pub order-names : OrderNames
order-names first second a b a' b' e = (compared-says first second).crossed a b a' b' (compared-as first second e)

pub only-names : OnlyNames
only-names first second place = (
  λ e. (compared-says first second).lacked place (compared-as first second e),
  λ e. (compared-says first second).lacked' place (compared-as first second e),
)
