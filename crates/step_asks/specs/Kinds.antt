-- The kinds by their numbers, as the code tells them apart. Assumes nothing.
use Rattle.std.specs.Prelude.{◌≡◌, refl, ◌≢◌, ◌⊎◌, Bool, true, false, cond, ◌&&◌, ◌||◌, eqb, leb}
use Rattle.std.proofs.Common.{sym, subst, arith, le-leb, inl, inr}
use Prim.Native.Nat.{ℕ, zero, suc, ◌≤◌, ◌<◌}
use Rattle.std.proofs.Math.Decide.{ℕ_discrete}
use Rattle.std.proofs.lemmas.Bool.{lt-leb, false_from_ne_true}
use Rattle.std.proofs.Math.Option.{none}
use Rattle.rules.specs.Codes.{step_done, unknown_kind, wrong_node}
use Rattle.rules.specs.Range.{within}
use Rattle.rules.specs.Step.{kind_of, number_of}
use Rattle.rules_laws.specs.InRange.{Within}
use Rattle.rules_laws.specs.Kinds.{of_none, of_node, of-power}
use Rattle.rules_laws.specs.Tests.{is_eq, is_within, is-yes}
use Rattle.step_parts.specs.Kinds.{hold_kind}
use Rattle.step_parts.specs.declared.Kind.{Kind}
use Rattle.step_parts.specs.declared.Kind.TheVariants as K
use Rattle.step_asks.specs.declared.Ask.{Ask}
use Rattle.step_asks.specs.Groups.{has_node, row_kind, desk_kind, at_row, at_desk, existence_of}

-- ---- which kinds each group has

pub data RowKind : ℕ → Type 0 where
  learns : RowKind 3
  send_update : RowKind 4
  receive_update : RowKind 5
  send_write : RowKind 6
  receive_write : RowKind 7
  connect : RowKind 8
  handle_write : RowKind 11

pub data DeskKind : ℕ → Type 0 where
  join : DeskKind 1
  leave : DeskKind 2

pub data BoardKind : ℕ → Type 0 where
  close : BoardKind 9
  handle_update : BoardKind 10
  shutdown : BoardKind 12
  startup : BoardKind 13

-- ---- a number within bounds, or not

pub inside : (low high x : ℕ) → low ≤ x → x ≤ high → within low high x ≡ true
unfolding within
inside low high x h k = simp (le-leb low x h, le-leb x high k)

pub under : (low high x : ℕ) → x < low → within low high x ≡ false
unfolding within
under low high x h = simp (lt-leb low x h)

pub over : (low high x : ℕ) → low ≤ x → high < x → within low high x ≡ false
unfolding within
over low high x h k = simp (le-leb low x h, lt-leb x high k)

pub from : (low high x : ℕ) → low ≤ x → leb x high ≡ within low high x
unfolding within
from low high x h = simp (le-leb low x h)

-- ---- what a test shows

pub row-kind : (k : ℕ) → row_kind k ≡ true → RowKind k
row-kind k e = go (eqb k 11) refl e
  where
    low : (k : ℕ) → Within 3 8 k → RowKind k
    low (suc (suc (suc zero))) w = learns
    low (suc (suc (suc (suc zero)))) w = send_update
    low (suc (suc (suc (suc (suc zero))))) w = receive_update
    low (suc (suc (suc (suc (suc (suc zero)))))) w = send_write
    low (suc (suc (suc (suc (suc (suc (suc zero))))))) w = receive_write
    low (suc (suc (suc (suc (suc (suc (suc (suc zero)))))))) w = connect
    low (suc (suc (suc (suc (suc (suc (suc (suc (suc k))))))))) w = absurd (omega arith)
    low zero w = absurd (omega arith)
    low (suc zero) w = absurd (omega arith)
    low (suc (suc zero)) w = absurd (omega arith)

    go : (x : Bool) → eqb k 11 ≡ x → (x || within 3 8 k) ≡ true → RowKind k
    go true p e = subst RowKind (sym ((is_eq k 11).to (rw p tt))) handle_write
    go false p e = low k ((is_within 3 8 k).to ((is-yes (within 3 8 k)).from e))

pub desk-kind : (k : ℕ) → desk_kind k ≡ true → DeskKind k
desk-kind k e = let w = (is_within 1 2 k).to ((is-yes (within 1 2 k)).from e) in go w (ℕ_discrete k 1)
  where
    go : Within 1 2 k → Dec (k ≡ 1) → DeskKind k
    go w (yes e) = subst DeskKind (sym e) join
    go w (no z) = subst DeskKind (let e : 2 ≡ k = omega arith in e) leave

both : (x y : Bool) → (x && y) ≡ true → (x ≡ true) × (y ≡ true)
both true y e = (refl, e)
both false y e = let w : ◌≡◌ {A = ℕ} 0 1 = cc in absurd (omega arith)

module _ (a : Ask) where
  pub row_at : at_row a ≡ true → RowKind a.kind × Within 1 a.count a.node
  row_at e = let t = both (row_kind a.kind) (has_node a) e in (row-kind a.kind t.0, (is_within 1 a.count a.node).to ((is-yes (has_node a)).from t.1))

  pub desk-at : at_desk a ≡ true → DeskKind a.kind × Within 1 a.count a.node
  desk-at e = let t = both (desk_kind a.kind) (has_node a) e in (desk-kind a.kind t.0, (is_within 1 a.count a.node).to ((is-yes (has_node a)).from t.1))

-- ---- the last of a match

pub last_row : (k : ℕ) → RowKind k → k ≢ 3 → k ≢ 4 → k ≢ 5 → k ≢ 6 → k ≢ 7 → k ≢ 8 → k ≡ 11
last_row _ learns a b c d e f = absurd (a refl)
last_row _ send_update a b c d e f = absurd (b refl)
last_row _ receive_update a b c d e f = absurd (c refl)
last_row _ send_write a b c d e f = absurd (d refl)
last_row _ receive_write a b c d e f = absurd (e refl)
last_row _ connect a b c d e f = absurd (f refl)
last_row _ handle_write a b c d e f = refl

pub last-desk : (k : ℕ) → DeskKind k → k ≢ 1 → k ≡ 2
last-desk _ join a = absurd (a refl)
last-desk _ leave a = refl

pub last-board : (k : ℕ) → BoardKind k → k ≢ 9 → k ≢ 10 → k ≢ 12 → k ≡ 13
last-board _ close a b c = absurd (a refl)
last-board _ handle_update a b c = absurd (b refl)
last-board _ shutdown a b c = absurd (c refl)
last-board _ startup a b c = refl

-- ---- whether a kind exists, and the node is one that it calls for: one of the N for kinds 1 to 11, and 0 for 12 and 13

module _ (count n : ℕ) where
  pub no-existence : (k : ℕ) → 13 < k → existence_of (kind_of k) count n ≡ unknown_kind
  no-existence k h = of_none (λ o. existence_of o count n) (cond (within 1 count n) step_done wrong_node) (cond (eqb n 0) step_done wrong_node) refl k h

  pub node-existence : (k : ℕ) → 1 ≤ k → k ≤ 11 → existence_of (kind_of k) count n ≡ cond (within 1 count n) step_done wrong_node
  node-existence k h j = of_node (λ o. existence_of o count n) (cond (within 1 count n) step_done wrong_node) (cond (eqb n 0) step_done wrong_node) refl k h (omega arith)

  pub power-existence : (k : ℕ) → 12 ≤ k → k ≤ 13 → existence_of (kind_of k) count n ≡ cond (eqb n 0) step_done wrong_node
  power-existence k h j = of-power (λ o. existence_of o count n) (cond (within 1 count n) step_done wrong_node) (cond (eqb n 0) step_done wrong_node) refl k h (omega arith)

-- ---- neither a row's kind nor the service's

module _ (count n : ℕ) where
  yes_of : (x : Bool) → cond x step_done wrong_node ≡ step_done → x ≡ true
  yes_of true e = refl
  yes_of false e = absurd (omega arith)

  clash : (x : Bool) → cond x step_done wrong_node ≡ step_done → x ≡ false → ⊥
  clash true e f = let w : ◌≡◌ {A = ℕ} 0 1 = cc in absurd (omega arith)
  clash false e f = absurd (omega arith)

  pub board-kind : (k : ℕ) → (row_kind k && within 1 count n) ≡ false → (desk_kind k && within 1 count n) ≡ false → existence_of (kind_of k) count n ≡ step_done → BoardKind k
  unfolding within
  board-kind zero r d z = absurd (omega arith)
  board-kind (suc zero) r d z = absurd (clash (within 1 count n) z d)
  board-kind (suc (suc zero)) r d z = absurd (clash (within 1 count n) z d)
  board-kind (suc (suc (suc zero))) r d z = absurd (clash (within 1 count n) z r)
  board-kind (suc (suc (suc (suc zero)))) r d z = absurd (clash (within 1 count n) z r)
  board-kind (suc (suc (suc (suc (suc zero))))) r d z = absurd (clash (within 1 count n) z r)
  board-kind (suc (suc (suc (suc (suc (suc zero)))))) r d z = absurd (clash (within 1 count n) z r)
  board-kind (suc (suc (suc (suc (suc (suc (suc zero))))))) r d z = absurd (clash (within 1 count n) z r)
  board-kind (suc (suc (suc (suc (suc (suc (suc (suc zero)))))))) r d z = absurd (clash (within 1 count n) z r)
  board-kind (suc (suc (suc (suc (suc (suc (suc (suc (suc zero))))))))) r d z = close
  board-kind (suc (suc (suc (suc (suc (suc (suc (suc (suc (suc zero)))))))))) r d z = handle_update
  board-kind (suc (suc (suc (suc (suc (suc (suc (suc (suc (suc (suc zero))))))))))) r d z = absurd (clash (within 1 count n) z r)
  board-kind (suc (suc (suc (suc (suc (suc (suc (suc (suc (suc (suc (suc zero)))))))))))) r d z = shutdown
  board-kind (suc (suc (suc (suc (suc (suc (suc (suc (suc (suc (suc (suc (suc zero))))))))))))) r d z = startup
  board-kind (suc (suc (suc (suc (suc (suc (suc (suc (suc (suc (suc (suc (suc (suc k)))))))))))))) r d z = absurd (omega arith)

  pub board-node : (k : ℕ) → BoardKind k → k ≤ 10 → existence_of (kind_of k) count n ≡ step_done → within 1 count n ≡ true
  board-node _ close h z = yes_of (within 1 count n) z
  board-node _ handle_update h z = yes_of (within 1 count n) z
  board-node _ shutdown h z = absurd (omega arith)
  board-node _ startup h z = absurd (omega arith)

  pub board-none : (k : ℕ) → BoardKind k → 12 ≤ k → existence_of (kind_of k) count n ≡ step_done → n ≡ 0
  board-none _ close h z = absurd (omega arith)
  board-none _ handle_update h z = absurd (omega arith)
  board-none _ shutdown h z = (is_eq n 0).to ((is-yes (eqb n 0)).from (yes_of (eqb n 0) z))
  board-none _ startup h z = (is_eq n 0).to ((is-yes (eqb n 0)).from (yes_of (eqb n 0) z))

-- ---- the kinds of the code, by group

pub row-yes : (k : Kind) → (k ≡ K.Learn) ⊎ (k ≡ K.SendUpdate) ⊎ (k ≡ K.ReceiveUpdate) ⊎ (k ≡ K.SendWrite) ⊎ (k ≡ K.ReceiveWrite) ⊎ (k ≡ K.Connect) ⊎ (k ≡ K.HandleWrite) → true ≡ row_kind (number_of (hold_kind k))
unfolding within
row-yes k (inl e) = rw e refl
row-yes k (inr (inl e)) = rw e refl
row-yes k (inr (inr (inl e))) = rw e refl
row-yes k (inr (inr (inr (inl e)))) = rw e refl
row-yes k (inr (inr (inr (inr (inl e))))) = rw e refl
row-yes k (inr (inr (inr (inr (inr (inl e)))))) = rw e refl
row-yes k (inr (inr (inr (inr (inr (inr e)))))) = rw e refl

pub row-no : (k : Kind) → k ≢ K.Learn → k ≢ K.SendUpdate → k ≢ K.ReceiveUpdate → k ≢ K.SendWrite → k ≢ K.ReceiveWrite → k ≢ K.Connect → k ≢ K.HandleWrite → false ≡ row_kind (number_of (hold_kind k))
unfolding within
row-no K.Join a b c d e f g = refl
row-no K.Leave a b c d e f g = refl
row-no K.Learn a b c d e f g = absurd (a refl)
row-no K.SendUpdate a b c d e f g = absurd (b refl)
row-no K.ReceiveUpdate a b c d e f g = absurd (c refl)
row-no K.SendWrite a b c d e f g = absurd (d refl)
row-no K.ReceiveWrite a b c d e f g = absurd (e refl)
row-no K.Connect a b c d e f g = absurd (f refl)
row-no K.Close a b c d e f g = refl
row-no K.HandleUpdate a b c d e f g = refl
row-no K.HandleWrite a b c d e f g = absurd (g refl)
row-no K.Shutdown a b c d e f g = refl
row-no K.Startup a b c d e f g = refl

pub row-none : (n : ℕ) → kind_of n ≡ none → false ≡ row_kind n
row-none n e = sym (false_from_ne_true (row_kind n) (λ t. go n (row-kind n t) e))
  where
    go : (n : ℕ) → RowKind n → kind_of n ≡ none → ⊥
    go _ learns e = let w : ◌≡◌ {A = ℕ} 0 1 = cc in absurd (omega arith)
    go _ send_update e = let w : ◌≡◌ {A = ℕ} 0 1 = cc in absurd (omega arith)
    go _ receive_update e = let w : ◌≡◌ {A = ℕ} 0 1 = cc in absurd (omega arith)
    go _ send_write e = let w : ◌≡◌ {A = ℕ} 0 1 = cc in absurd (omega arith)
    go _ receive_write e = let w : ◌≡◌ {A = ℕ} 0 1 = cc in absurd (omega arith)
    go _ connect e = let w : ◌≡◌ {A = ℕ} 0 1 = cc in absurd (omega arith)
    go _ handle_write e = let w : ◌≡◌ {A = ℕ} 0 1 = cc in absurd (omega arith)

pub desk-yes : (k : Kind) → (k ≡ K.Join) ⊎ (k ≡ K.Leave) → true ≡ desk_kind (number_of (hold_kind k))
unfolding within
desk-yes k (inl e) = rw e refl
desk-yes k (inr e) = rw e refl

pub desk-no : (k : Kind) → k ≢ K.Join → k ≢ K.Leave → false ≡ desk_kind (number_of (hold_kind k))
unfolding within
desk-no K.Join a b = absurd (a refl)
desk-no K.Leave a b = absurd (b refl)
desk-no K.Learn a b = refl
desk-no K.SendUpdate a b = refl
desk-no K.ReceiveUpdate a b = refl
desk-no K.SendWrite a b = refl
desk-no K.ReceiveWrite a b = refl
desk-no K.Connect a b = refl
desk-no K.Close a b = refl
desk-no K.HandleUpdate a b = refl
desk-no K.HandleWrite a b = refl
desk-no K.Shutdown a b = refl
desk-no K.Startup a b = refl

pub desk-none : (n : ℕ) → kind_of n ≡ none → false ≡ desk_kind n
desk-none n e = sym (false_from_ne_true (desk_kind n) (λ t. go n (desk-kind n t) e))
  where
    go : (n : ℕ) → DeskKind n → kind_of n ≡ none → ⊥
    go _ join e = let w : ◌≡◌ {A = ℕ} 0 1 = cc in absurd (omega arith)
    go _ leave e = let w : ◌≡◌ {A = ℕ} 0 1 = cc in absurd (omega arith)
