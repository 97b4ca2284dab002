-- The own acts of two controllers are independent, so logs of own acts may be merged in any way. Assumes nothing.
use Rattle.std.specs.Prelude.{◌≡◌, Bool, ◌||◌, List, [], ◌∷◌, ℕ}
use Rattle.std.proofs.Math.Path.{refl}
use Rattle.std.proofs.Common.{sym, ◌∙◌, eqb→eq}
use Rattle.std.proofs.Math.Bool.{true, false, not}
use Rattle.std.proofs.Math.Dec.{T, eqb}
use Rattle.rules.specs.Queues.{has}
use Rattle.rules.specs.Range.{within}
use Rattle.rules.specs.Step.{Event, kind_of}
use Rattle.rules_laws.specs.All.{All}
use Rattle.rules_laws.specs.Tests.{◌&◌, as-is, is_ne}
use Rattle.rules_exchange.specs.Independent.{node_kinds, other_nodes, lines, names, calls, listed, exists, independent}
use Rattle.rules_exchange.specs.Listed.{either}
use Rattle.merge_verdict.specs.Clocks.{Logged, Timely, fixed, NoDoubt}
use Rattle.merge_verdict.specs.Own.{Own, OwnActs, OwnLogs}
use Rattle.merge_verdict.proofs.Merging.{clock-verdict}

called-own : (count n : ℕ) (ks : List ℕ) → All (λ k. calls (kind_of k) count n ≡ within 1 count n) ks → (k : ℕ) → T (has k ks) → calls (kind_of k) count n ≡ within 1 count n
unfolding has
called-own count n [] a k h = absurd h
called-own count n (x ∷ ks) a k h = either (eqb k x) (has k ks) (λ t. rw (eqb→eq k x t) a.0) (called-own count n ks a.1 k) h

own-exists : (count : ℕ) (e : Event) → Own count e → T (exists count e)
unfolding exists
own-exists count e o = rw (called-own count e.node node_kinds (refl, (refl, (refl, (refl, (refl, tt))))) e.kind o.kind) o.node

or-first : (a b : Bool) → T a → T (a || b)
or-first true b t = tt
or-first false b t = absurd t

pub own-acts : OwnActs
unfolding independent listed
own-acts count e f o p d =
    let a = (as-is (has e.kind node_kinds) & as-is (has f.kind node_kinds) & is_ne e.node f.node).from ((o.kind, p.kind), d) in
    (as-is (exists count e) & as-is (exists count f) & as-is (listed lines e f || listed lines f e)).from (
      (own-exists count e o, own-exists count f p),
      or-first (listed lines e f) (listed lines f e) (or-first (names (other_nodes node_kinds node_kinds) e f) _ a),
    )

-- ---- logs of own acts

-- Nothing is known of the clocks.
any : Logged → Logged → Bool
any x y = true

any-timely : (l : List Logged) → Timely any l
unfolding any
any-timely [] = tt
any-timely (x ∷ l) = (all_true l, any-timely l)
  where
    all_true : (l : List Logged) → All (λ y. T true) l
    all_true [] = tt
    all_true (y ∷ l) = (tt, all_true l)

module _ (count : ℕ) where
  abbrev OwnLog : Logged → Type 0
  OwnLog x = Own count x.event × (x.event.node ≡ x.log)

  own_fixed : (x y : Logged) → OwnLog x → OwnLog y → T (fixed count any x y)
  unfolding fixed
  own_fixed x y o p = go (eqb x.log y.log) refl
    where
      go : (b : Bool) → eqb x.log y.log ≡ b → T (b || independent count x.event y.event || not (any y x))
      go true i = tt
      go false i = or-first (independent count x.event y.event) (not (any y x))
          (own-acts count x.event y.event o.0 p.0 (λ e. (is_ne x.log y.log).to (rw i tt) (sym o.1 ∙ e ∙ p.1)))

  own_row : (x : Logged) → OwnLog x → (l : List Logged) → All OwnLog l → All (λ y. T (fixed count any x y)) l
  own_row x o [] h = tt
  own_row x o (y ∷ l) h = (own_fixed x y o h.0, own_row x o l h.1)

  no-doubt : (l : List Logged) → All OwnLog l → NoDoubt count any l
  no-doubt [] h = tt
  no-doubt (x ∷ l) h = (own_row x h.0 l h.1, no-doubt l h.1)

pub own-logs : OwnLogs
own-logs s es fs r h k = clock-verdict s any es r (no-doubt s.count es h) fs k (any-timely fs)
