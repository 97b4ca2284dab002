-- Steps of the switch and all streams, and steps that nothing calls for, on a body in range: the answer is the rules', and what is left is what
-- they leave. Assumes nothing.
use Rattle.std.specs.Prelude.{◌≡◌, ◌≢◌, Bool, true, false, not, cond, List, ℕ, ◌≤◌}
use Rattle.std.proofs.Math.Path.{refl}
use Rattle.std.proofs.Common.{sym, ap, subst, ◌∙◌, ⊎_elim, arith, eq-eqb, ne_eqb}
use Rattle.std.proofs.Math.Option.{Option, none, some}
use Rattle.std.proofs.Math.Decide.{ℕ_discrete}
use Rattle.rules.specs.Codes.{step_done, not_allowed, wrong_node}
use Rattle.rules.specs.State as S
use Rattle.rules.specs.Range.{within}
use Rattle.rules.specs.Parts.{Telling}
use Rattle.rules.specs.Rules as R
use Rattle.rules.specs.Rules.{Kind, class_of}
use Rattle.rules.specs.Step.{kind_of, called, at_node, of_kind}
use Rattle.step_state.specs.Hold.{hold_core}
use Rattle.step_state.specs.Stores.{store_telling}
use Rattle.step_state.specs.declared.Stream.{Stream}
use Rattle.step_state.specs.declared.Claims.{Claims}
use Rattle.step_state.specs.declared.Board.{Board}
use Rattle.step_state.specs.declared.Body.{Body}
use Rattle.rules_laws.specs.Tests.{is_within, is-yes}
use Rattle.step_moves.specs.Bodies.{state_of, Ready, Leaves}
use Rattle.step_moves.specs.Sets.{with_board}
use Rattle.step_moves.specs.Stored.{in-order-board, few}
use Rattle.step_moves.specs.Acts.{plain}
use Rattle.step_switch.proofs.Callers.{close-tells, close-effect, update-tells, update-effect}
use Rattle.step_asks.specs.Groups.{at_row, at_desk, existence_of, existence, runs_after}
use Rattle.step_asks.specs.Kinds.{BoardKind, close, handle_update, shutdown, startup, board-kind, board-node, board-none}
use Rattle.step_groups.specs.At.{At}
use Rattle.step_groups.specs.Switch.{at-board, tell_yes, shutdown-yes, startup-yes}
use Rattle.step_groups.specs.Turns.{switch_answer, board_answer, board_after}
use Rattle.step_groups.specs.Asks.{BoardAsks, BoardGoes}
use Rattle.step_groups.specs.Answers.{shutdown-answer, startup-answer}
use Rattle.step_groups.specs.Called.{ask_of, called-answer, called-leaves}

-- ---- the step that nothing calls for

pub existence-answer : (o : Option Kind) (n : ℕ) (s : S.State) → existence_of o s.count n ≢ step_done → existence_of o s.count n ≡ (of_kind o n s).answer
existence-answer none n s h = refl
existence-answer (some k) n s h = go (called (class_of k) s.count n) h
  where
    go : (x : Bool) → cond x step_done wrong_node ≢ step_done → cond x step_done wrong_node ≡ (at_node x k n s).answer
    go true h = absurd (h refl)
    go false h = refl

is_true : (b : Bool) → cond b step_done not_allowed ≡ step_done → b ≡ true
is_true true e = refl
is_true false e = absurd (omega arith)

not-true : (b : Bool) → not b ≡ true → b ≡ false
not-true true e = sym e
not-true false e = refl

module _ (b : Body) (ready : Ready b) (n k : ℕ) where
  at-node : within 1 b.count n ≡ true → At b n
  at-node e = let w = (is_within 1 b.count n).to ((is-yes (within 1 b.count n)).from e) in record { ready = ready; low = w.lower; high = w.upper; few = few b ready }

  module _ (row : at_row (ask_of b k n) ≡ false) (desk : at_desk (ask_of b k n) ≡ false) where
    kind : existence (ask_of b k n) ≡ step_done → BoardKind k
    kind z = board-kind b.count n k row desk z

    pub board-asks : BoardAsks (ask_of b k n) b.core.streams b.core.claims
    board-asks = record {
      board = in-order-board b ready;
      kind = kind;
      within = λ z e. at-board b n (at-node (board-node b.count n k (kind z) (⊎_elim (λ f. omega arith) (λ f. omega arith) e) z));
    }

    switch-answered : (history : List S.Write) → (j : ℕ) → BoardKind j → existence_of (kind_of j) b.count n ≡ step_done
        → switch_answer (ask_of b j n) b.core.streams b.core.claims ≡ (of_kind (kind_of j) n (state_of b history)).answer
    unfolding hold_core
    switch-answered history _ close z = called-answer b n history 9 R.close refl (board-node b.count n 9 close (omega arith) z) _ refl
    switch-answered history _ handle_update z = called-answer b n history 10 R.handle_update refl (board-node b.count n 10 handle_update (omega arith) z) _ refl
    switch-answered history _ shutdown z = called-answer b n history 12 R.shutdown refl (eq-eqb n 0 (board-none b.count n 12 shutdown (omega arith) z)) _ refl
    switch-answered history _ startup z = called-answer b n history 13 R.startup refl (eq-eqb n 0 (board-none b.count n 13 startup (omega arith) z)) _ refl

    pub board-answered : (history : List S.Write) → board_answer (ask_of b k n) b.core.streams b.core.claims ≡ (of_kind (kind_of k) n (state_of b history)).answer
    board-answered history = go (ℕ_discrete (existence (ask_of b k n)) step_done)
      where
        go : Dec (existence (ask_of b k n) ≡ step_done) → board_answer (ask_of b k n) b.core.streams b.core.claims ≡ (of_kind (kind_of k) n (state_of b history)).answer
        go (yes z) = simp (eq-eqb (existence (ask_of b k n)) step_done z) (switch-answered history k (kind z) z)
        go (no h) = simp (ne_eqb (existence (ask_of b k n)) step_done h) (existence-answer (kind_of k) n (state_of b history) h)

    -- ---- where the answer is 0

    module _ (z : board_answer (ask_of b k n) b.core.streams b.core.claims ≡ step_done) where
      calls : existence (ask_of b k n) ≡ step_done
      calls = go (ℕ_discrete (existence (ask_of b k n)) step_done)
        where
          go : Dec (existence (ask_of b k n) ≡ step_done) → existence (ask_of b k n) ≡ step_done
          go (yes e) = e
          go (no h) = simp (ne_eqb (existence (ask_of b k n)) step_done h) at z

      done : switch_answer (ask_of b k n) b.core.streams b.core.claims ≡ step_done
      done = simp (eq-eqb (existence (ask_of b k n)) step_done calls) at z

      done_at : (j : ℕ) → k ≡ j → switch_answer (ask_of b j n) b.core.streams b.core.claims ≡ step_done
      done_at j e = subst (λ (i : ℕ). switch_answer (ask_of b i n) b.core.streams b.core.claims ≡ step_done) e done

      called-node : k ≤ 10 → At b n
      called-node h = at-node (board-node b.count n k (kind calls) h calls)

      pub board-goes : BoardGoes (ask_of b k n) b.core.streams b.core.claims
      board-goes = record {
        board = in-order-board b ready;
        kind = kind calls;
        closes = λ e. close-tells b.count n b.running b.core.streams b.core.claims (at-board b n (called-node (omega arith))) (done_at 9 e);
        updates = λ e. update-tells b.count n b.running b.core.streams b.core.claims (at-board b n (called-node (omega arith))) (done_at 10 e);
      }

      pub board-leaves : (history : List S.Write) (x : Board) → x ≡ board_after (ask_of b k n) b.core.streams b.core.claims
          → Leaves history (of_kind (kind_of k) n (state_of b history)) (plain step_done (with_board (runs_after (ask_of b k n)) x.streams x.claims b))
      board-leaves history x e = go k (kind calls) calls done e
        where
          streams : List Stream
          streams = b.core.streams

          claims : Claims
          claims = b.core.claims

          tells : (v : Telling) → Board
          tells v = store_telling n v b.count streams claims

          go : (j : ℕ) → BoardKind j → existence_of (kind_of j) b.count n ≡ step_done → switch_answer (ask_of b j n) b.core.streams b.core.claims ≡ step_done
              → x ≡ board_after (ask_of b j n) b.core.streams b.core.claims
              → Leaves history (of_kind (kind_of j) n (state_of b history)) (plain step_done (with_board (runs_after (ask_of b j n)) x.streams x.claims b))
          go _ close c z e = let i = board-node b.count n 9 close (omega arith) c in
              called-leaves b n history 9 R.close refl i
              (tell_yes b n (at-node i) history (R.close_rule n) z x (e ∙ ap tells (close-effect b.count n b.running streams claims)) _ refl)
          go _ handle_update c z e = let i = board-node b.count n 10 handle_update (omega arith) c in
              called-leaves b n history 10 R.handle_update refl i
              (tell_yes b n (at-node i) history (R.handle_update_rule n) z x (e ∙ ap tells (update-effect b.count n b.running streams claims)) _ refl)
          go _ shutdown c z e =
              subst (λ (j : ℕ). Leaves history (of_kind (kind_of 12) j (state_of b history)) (plain step_done (with_board false x.streams x.claims b)))
              (sym (board-none b.count n 12 shutdown (omega arith) c))
              (called-leaves b 0 history 12 R.shutdown refl refl
              (shutdown-yes b ready history (is_true b.running (shutdown-answer b.count b.running streams claims ∙ z)) x e _ refl))
          go _ startup c z e =
              subst (λ (j : ℕ). Leaves history (of_kind (kind_of 13) j (state_of b history)) (plain step_done (with_board true x.streams x.claims b)))
              (sym (board-none b.count n 13 startup (omega arith) c))
              (called-leaves b 0 history 13 R.startup refl refl
              (startup-yes b ready history (not-true b.running (is_true (not b.running) (startup-answer b.count b.running streams claims ∙ z)))
              _ (ap (λ (y : Board). plain step_done (with_board true y.streams y.claims b)) e)))
