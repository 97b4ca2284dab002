-- Who wins the switch's election: what the master and the largest id are, without a search. Assumes nothing.
use Rattle.std.specs.Prelude.{◌≡◌, refl, ◌≢◌, cond, List, [], ◌∷◌, ℕ, zero, suc, ◌+◌, ◌-◌, ◌≤◌, ◌<◌, eqb, length, set}
use Rattle.std.proofs.Math.Path.{sym, ap}
use Rattle.std.proofs.Common.{◌∙◌, arith, get_or-set_same, get_or-set_other, eq-eqb, ne_eqb}
use Rattle.std.proofs.Math.Decide.{ℕ_discrete, dec_le, dec_lt}
use Rattle.std.proofs.Math.ListN.{get_or, get_or-eq_default}
use Rattle.std.proofs.Math.Seq.{set-get_or}
use Rattle.rules.specs.State.{Held}
use Rattle.rules.specs.Queues.{before}
use Rattle.rules.specs.Election.{largest, master_of, elected, holding}
use Rattle.rules.specs.Rules.{changes}
use Rattle.rules_laws.specs.Lists.{before-first, before-later}

-- ---- searching

none_before : (x : ℕ) (l : List ℕ) (i : ℕ) → i < before x l → get_or l i 0 ≢ x
unfolding before
none_before x [] i h = absurd (omega arith)
none_before x (y ∷ l) i h = go i h (ℕ_discrete x y) (none_before x l)
  where
    go : (i : ℕ) → i < before x (y ∷ l) → Dec (x ≡ y) → ((i : ℕ) → i < before x l → get_or l i 0 ≢ x) → get_or (y ∷ l) i 0 ≢ x
    go i h (yes e) more = let z = before-first x l in let b : before x (y ∷ l) ≡ 0 = rw (sym e) z in absurd (omega arith)
    go zero h (no e) more = λ q. e (sym q)
    go (suc i) h (no e) more = let b = before-later x y l e in more i (omega arith)

-- Some place has the largest, if it is above 0.
record Somewhere (x : ℕ) (l : List ℕ) : Type 0 where
  place : ℕ
  there : get_or l place 0 ≡ x

largest-somewhere : (l : List ℕ) → 1 ≤ largest l → Somewhere (largest l) l
unfolding largest
largest-somewhere [] h = absurd (omega arith)
largest-somewhere (x ∷ l) h = go (dec_le (largest l) x) (largest-somewhere l)
  where
    go : Dec (largest l ≤ x) → (1 ≤ largest l → Somewhere (largest l) l) → Somewhere (largest (x ∷ l)) (x ∷ l)
    go (yes k) more = record { place = 0; there = let z : x ≡ largest (x ∷ l) = omega arith in z }
    go (no k) more = let s = more (omega arith) in record { place = suc s.place; there = s.there ∙ omega arith }

found_before : (x : ℕ) (l : List ℕ) (k : ℕ) → 1 ≤ x → get_or l k 0 ≡ x → get_or l (before x l) 0 ≡ x
unfolding before
found_before x [] k p e = e
found_before x (y ∷ l) k p e = go k e (ℕ_discrete x y) (found_before x l)
  where
    go : (k : ℕ) → get_or (y ∷ l) k 0 ≡ x → Dec (x ≡ y) → ((k : ℕ) → 1 ≤ x → get_or l k 0 ≡ x → get_or l (before x l) 0 ≡ x) → get_or (y ∷ l) (before x (y ∷ l)) 0 ≡ x
    go k e (yes q) more = ap (λ (i : ℕ). get_or (y ∷ l) i 0) (let z : before x (y ∷ l) ≡ 0 = rw (sym q) (before-first x l) in z) ∙ sym q
    go zero e (no q) more = absurd (q (sym e))
    go (suc k) e (no q) more = ap (λ (i : ℕ). get_or (y ∷ l) i 0) (before-later x y l q) ∙ more k p e

-- ---- the winner

-- The master is the first node that holds the id `top`; there is none where that is 0.
pub record Holds (ids : List ℕ) (master top : ℕ) : Type 0 where
  pub none : top ≡ 0 → master ≡ 0
  pub some : 1 ≤ top → 1 ≤ master
  pub own : 1 ≤ top → get_or ids (master - 1) 0 ≡ top
  pub first : (i : ℕ) → i + 1 < master → get_or ids i 0 < top

-- And no id is above it.
pub record Wins (ids : List ℕ) (master top : ℕ) : Type 0 where
  pub holds : Holds ids master top
  pub most : (i : ℕ) → get_or ids i 0 ≤ top

-- The same among the first k nodes: a pass that has come so far.
pub record Leads (ids : List ℕ) (k master top : ℕ) : Type 0 where
  pub holds : Holds ids master top
  pub most : (i : ℕ) → i < k → get_or ids i 0 ≤ top

nobody : (ids : List ℕ) → Holds ids 0 0
nobody ids = record { none = λ e. refl; some = λ p. absurd (omega arith); own = λ p. absurd (omega arith); first = λ i p. absurd (omega arith) }

most-is : (l : List ℕ) (i : ℕ) → get_or l i 0 ≤ largest l
unfolding largest
most-is [] i = omega arith
most-is (x ∷ l) zero = omega arith
most-is (x ∷ l) (suc i) = let h = most-is l i in omega arith

pub elects : (ids : List ℕ) → Wins ids (master_of ids) (largest ids)
unfolding master_of
elects ids = go (ℕ_discrete (largest ids) 0)
  where
    go : Dec (largest ids ≡ 0) → Wins ids (cond (eqb (largest ids) 0) 0 (before (largest ids) ids + 1)) (largest ids)
    go (yes e) = rw (eq-eqb (largest ids) 0 e) (record { holds = rw e (nobody ids); most = most-is ids })
    go (no e) = let s = largest-somewhere ids (omega arith) in rw (ne_eqb (largest ids) 0 e) (record {
      holds = record {
        none = λ z. absurd (e z);
        some = λ z. omega arith;
        own = λ z. ap (λ (i : ℕ). get_or ids i 0) (omega arith) ∙ found_before (largest ids) ids s.place z s.there;
        first = λ i z. let a = none_before (largest ids) ids i (omega arith) in let b = most-is ids i in omega arith;
      };
      most = most-is ids;
    })

-- There is one winner.
one-top : (ids : List ℕ) (m t m' t' : ℕ) → Wins ids m t → Wins ids m' t' → t ≤ t'
one-top ids m t m' t' w w' = go (dec_le 1 t)
  where
    go : Dec (1 ≤ t) → t ≤ t'
    go (yes p) = let a = w.holds.own p in let b = w'.most (m - 1) in omega arith
    go (no p) = omega arith

one-master : (ids : List ℕ) (m m' t : ℕ) → Wins ids m t → Wins ids m' t → m ≤ m'
one-master ids m m' t w w' = go (dec_le 1 t) (dec_le m m')
  where
    go : Dec (1 ≤ t) → Dec (m ≤ m') → m ≤ m'
    go p (yes q) = q
    go (yes p) (no q) = let a = w'.holds.some p in let b = w'.holds.own p in let c = w.holds.first (m' - 1) (omega arith) in absurd (omega arith)
    go (no p) (no q) = let a = w.holds.none (omega arith) in absurd (omega arith)

-- Whoever wins is elected.
pub wins : (ids : List ℕ) (m t : ℕ) → Wins ids m t → elected ids ≡ record { ids = ids; master = m; largest = t }
unfolding elected
wins ids m t w =
    let e = elects ids in
    let top : largest ids ≡ t = let a = one-top ids _ _ m t e w in let b = one-top ids m t _ _ w e in omega arith in
    let w' : Wins ids m (largest ids) = rw top w in
    let master : master_of ids ≡ m = let a = one-master ids _ m _ e w' in let b = one-master ids m _ _ w' e in omega arith in
    λ i. record { ids = ids; master = master i; largest = top i }

-- Without ids nobody is.
pub none-win : (ids : List ℕ) → ((i : ℕ) → get_or ids i 0 ≡ 0) → elected ids ≡ record { ids = ids; master = 0; largest = 0 }
none-win ids z = wins ids 0 0 (record { holds = nobody ids; most = λ i. let e = z i in omega arith })

-- ---- one pass

pub leads-first : (ids : List ℕ) → Leads ids 0 0 0
leads-first ids = record { holds = nobody ids; most = λ i p. absurd (omega arith) }

module _ (ids : List ℕ) (k m t : ℕ) (l : Leads ids k m t) where
  more : (top : ℕ) → t ≤ top → get_or ids k 0 ≤ top → (i : ℕ) → i < k + 1 → get_or ids i 0 ≤ top
  more top a b i p = go (ℕ_discrete i k)
    where
      go : Dec (i ≡ k) → get_or ids i 0 ≤ top
      go (yes e) = rw e b
      go (no z) = let c = l.most i (omega arith) in omega arith

  -- The next id is above all so far, or not.
  pub leads-anew : t < get_or ids k 0 → Leads ids (k + 1) (k + 1) (get_or ids k 0)
  leads-anew above = record {
    holds = record {
      none = λ e. absurd (omega arith);
      some = λ p. omega arith;
      own = λ p. ap (λ (i : ℕ). get_or ids i 0) (omega arith);
      first = λ i p. let a = l.most i (omega arith) in omega arith;
    };
    most = more (get_or ids k 0) (omega arith) (omega arith);
  }

  pub leads-on : get_or ids k 0 ≤ t → Leads ids (k + 1) m t
  leads-on below = record { holds = l.holds; most = more t (omega arith) below }

  pub leads-all : length ids ≤ k → elected ids ≡ record { ids = ids; master = m; largest = t }
  leads-all short = wins ids m t (record { holds = l.holds; most = λ i. go i (dec_lt i k) })
    where
      go : (i : ℕ) → Dec (i < k) → get_or ids i 0 ≤ t
      go i (yes p) = l.most i p
      go i (no p) = rw (get_or-eq_default ids 0 {n = i} (omega arith)) (omega arith)

-- ---- one id anew

module _ (h : Held) (made : h ≡ elected h.ids) (n id : ℕ) (low : 1 ≤ n) (high : n ≤ length h.ids) where
  now : Wins h.ids h.master h.largest
  unfolding elected
  now = rw made (elects h.ids)

  abbrev then : List ℕ
  then = set h.ids (n - 1) id

  -- The others keep theirs.
  other : (i : ℕ) → i ≢ n - 1 → get_or then i 0 ≡ get_or h.ids i 0
  other i z = get_or-set_other h.ids (n - 1) i id 0 z

  own : get_or then (n - 1) 0 ≡ id
  own = get_or-set_same h.ids (n - 1) id 0 (omega arith)

  each_of : (P : ℕ → ℕ → Type 0) → P (n - 1) id → ((i : ℕ) → i ≢ n - 1 → P i (get_or h.ids i 0)) → (i : ℕ) → P i (get_or then i 0)
  each_of P p f i = go (ℕ_discrete i (n - 1))
    where
      go : Dec (i ≡ n - 1) → P i (get_or then i 0)
      go (yes e) = rw (e, own) p
      go (no z) = rw (other i z) (f i z)

  -- An id above all others wins.
  pub higher-wins : h.largest < id → holding n id h ≡ record { ids = then; master = n; largest = id }
  unfolding holding
  higher-wins above = wins then n id (record {
    holds = record {
      none = λ z. absurd (omega arith);
      some = λ z. low;
      own = λ z. own;
      first = λ i z. let a = now.most i in rw (other i (omega arith)) (omega arith);
    };
    most = each_of (λ i x. x ≤ id) (omega arith) (λ i z. let a = now.most i in omega arith);
  })

  -- A lower id of a node that is not the master changes nothing.
  pub lower-stays : id < h.largest → h.master ≢ n → holding n id h ≡ record { ids = then; master = h.master; largest = h.largest }
  unfolding holding
  lower-stays below stays =
      let some : 1 ≤ h.master = now.holds.some (omega arith) in
      wins then h.master h.largest (record {
        holds = record {
          none = λ z. absurd (omega arith);
          some = λ z. some;
          own = λ z. other (h.master - 1) (omega arith) ∙ now.holds.own z;
          first = each_of (λ i x. i + 1 < h.master → x < h.largest) (λ z. below) (λ i z. now.holds.first i);
        };
        most = each_of (λ i x. x ≤ h.largest) (omega arith) (λ i z. now.most i);
      })

  -- Nor does the id that the master has already.
  pub same-stays : id ≡ h.largest → h.master ≡ n → holding n id h ≡ record { ids = then; master = h.master; largest = h.largest }
  unfolding holding elected
  same-stays same is =
      let some : 1 ≤ h.largest = go (dec_le 1 h.largest) in
      let has : get_or h.ids (n - 1) 0 ≡ id = ap (λ (m : ℕ). get_or h.ids (m - 1) 0) (sym is) ∙ now.holds.own some ∙ sym same in
      let stays : then ≡ h.ids = ap (set h.ids (n - 1)) (sym has) ∙ set-get_or h.ids (n - 1) 0 in
      ap elected stays ∙ sym made ∙ (λ i. record { ids = sym stays i; master = h.master; largest = h.largest })
    where
      go : Dec (1 ≤ h.largest) → 1 ≤ h.largest
      go (yes p) = p
      go (no p) = let z = now.holds.none (omega arith) in absurd (omega arith)

  left : Wins then (holding n id h).master (holding n id h).largest
  unfolding holding elected
  left = elects then

-- Closing a stream changes the switch's master exactly if it is the master's.
pub close-shifts : (h : Held) → h ≡ elected h.ids → (n : ℕ) → 1 ≤ n → n ≤ length h.ids → changes h (holding n 0 h) ≡ eqb h.master n
unfolding changes
close-shifts h made n low high = go (ℕ_discrete h.master n)
  where
    after : Wins (set h.ids (n - 1) 0) (holding n 0 h).master (holding n 0 h).largest
    after = left h made n 0 low high

    gone : Dec (1 ≤ (holding n 0 h).largest) → (holding n 0 h).master ≢ n
    gone (yes p) e = let a = after.holds.own p in let b = own h made n 0 low high in let c : get_or (set h.ids (n - 1) 0) ((holding n 0 h).master - 1) 0 ≡ 0 = rw e b in absurd (omega arith)
    gone (no p) e = let a = after.holds.none (omega arith) in absurd (omega arith)

    nobody : h.largest ≡ 0 → Dec (1 ≤ (holding n 0 h).largest) → (holding n 0 h).master ≡ 0
    nobody z (yes p) =
        let a = after.holds.own p in
        let b = each_of h made n 0 low high (λ i x. x ≤ 0) (omega arith) (λ i o. let c = (now h made n 0 low high).most i in omega arith) ((holding n 0 h).master - 1) in
        absurd (omega arith)
    nobody z (no p) = after.holds.none (omega arith)

    stays : h.master ≢ n → Dec (h.largest ≡ 0) → (holding n 0 h).master ≡ h.master
    stays o (yes z) = nobody z (dec_le 1 (holding n 0 h).largest) ∙ sym ((now h made n 0 low high).holds.none z)
    stays o (no z) = ap (λ (x : Held). x.master) (lower-stays h made n 0 low high (omega arith) o)

    go : Dec (h.master ≡ n) → changes h (holding n 0 h) ≡ eqb h.master n
    go (yes e) = simp (ne_eqb h.master (holding n 0 h).master (λ q. gone (dec_le 1 (holding n 0 h).largest) (sym q ∙ e)), eq-eqb h.master n e)
    go (no z) = simp (eq-eqb h.master (holding n 0 h).master (sym (stays z (ℕ_discrete h.largest 0))), ne_eqb h.master n z)
