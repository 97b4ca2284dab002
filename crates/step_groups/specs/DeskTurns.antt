-- Steps of the service, on a body in range: the answer is the rules', and what is left is what they leave. Assumes nothing.
use Rattle.std.specs.Prelude.{◌≡◌, true, false, List, map, ℕ}
use Rattle.std.proofs.Math.Path.{refl}
use Rattle.std.proofs.Common.{arith}
use Rattle.rules.specs.Codes.{step_done}
use Rattle.rules.specs.State as S
use Rattle.rules.specs.Queues.{push, room_all}
use Rattle.rules.specs.Range.{within}
use Rattle.rules.specs.Rules as R
use Rattle.rules.specs.Step.{kind_of, of_kind}
use Rattle.any_list.specs.Arrays.{column}
use Rattle.step_parts.specs.Hold.{hold_mastership}
use Rattle.step_parts.specs.Ordered.{OrderedMastership}
use Rattle.step_parts.specs.declared.Mastership.{Mastership}
use Rattle.step_state.specs.Hold.{events_at, hold_core}
use Rattle.step_state.specs.Stores.{store_events}
use Rattle.step_state.specs.declared.Controller.{Controller}
use Rattle.step_state.specs.declared.Body.{Body}
use Rattle.step_moves.specs.Bodies.{state_of, Leaves}
use Rattle.step_moves.specs.Sets.{with_desk}
use Rattle.step_moves.specs.Acts.{plain}
use Rattle.step_asks.specs.Kinds.{DeskKind, join, leave, inside}
use Rattle.step_groups.specs.At.{At}
use Rattle.step_groups.specs.Service.{joins, join_written, join-room, join-yes, leaving, leave-written, leave_room, leave-posts, leave-quiet}
use Rattle.step_groups.specs.Turns.{desk_answer, service_after, posting}
use Rattle.step_groups.specs.Asks.{DeskGoes}
use Rattle.step_groups.specs.Called.{ask_of, called-answer, called-leaves}

module _ (b : Body) (n : ℕ) (a : At b n) where
  is-node : within 1 b.count n ≡ true
  is-node = inside 1 b.count n a.low a.high

  pub desk-answered : (history : List S.Write) (k : ℕ) → DeskKind k → desk_answer (ask_of b k n) b.core.service b.core.controllers ≡ (of_kind (kind_of k) n (state_of b history)).answer
  unfolding hold_core
  desk-answered history _ join = called-answer b n history 1 R.join refl is-node _ refl
  desk-answered history _ leave = called-answer b n history 2 R.leave refl is-node _ refl

  -- ---- where the answer is 0

  pub desk-goes : (k : ℕ) → DeskKind k → desk_answer (ask_of b k n) b.core.service b.core.controllers ≡ step_done → DeskGoes (ask_of b k n) b.core.service
  desk-goes _ join z = record { kind = join; joins = λ e. joins b n a z; leaving = λ e. absurd (omega arith) }
  desk-goes _ leave z = record { kind = leave; joins = λ e. absurd (omega arith); leaving = λ e. leaving b n a z }

  pub desk-written : (k : ℕ) → DeskKind k → desk_answer (ask_of b k n) b.core.service b.core.controllers ≡ step_done
      → (x : Mastership) → x ≡ service_after (ask_of b k n) b.core.service → OrderedMastership x
  desk-written _ join z x e = join_written b n a z x e
  desk-written _ leave z x e = leave-written b n a z x e

  pub desk-room : (k : ℕ) → DeskKind k → desk_answer (ask_of b k n) b.core.service b.core.controllers ≡ step_done
      → posting (ask_of b k n) b.core.service ≡ true → room_all (column events_at b.count b.core.controllers) ≡ true
  desk-room _ join z p = join-room b n a z
  desk-room _ leave z p = leave_room b n a z p

  module _ (history : List S.Write) where
    pub desk-posts : (k : ℕ) → DeskKind k → desk_answer (ask_of b k n) b.core.service b.core.controllers ≡ step_done
        → posting (ask_of b k n) b.core.service ≡ true → (x : Mastership) → x ≡ service_after (ask_of b k n) b.core.service
        → (l : List Controller) → l ≡ store_events (map (push (hold_mastership x)) (column events_at b.count b.core.controllers)) b.count b.core.controllers
        → Leaves history (of_kind (kind_of k) n (state_of b history)) (plain step_done (with_desk x l b))
    desk-posts _ join z p x e l f = called-leaves b n history 1 R.join refl is-node (join-yes b n a z history x e l f _ refl)
    desk-posts _ leave z p x e l f = called-leaves b n history 2 R.leave refl is-node (leave-posts b n a z p history x e l f _ refl)

    pub desk-quiet : (k : ℕ) → DeskKind k → desk_answer (ask_of b k n) b.core.service b.core.controllers ≡ step_done
        → posting (ask_of b k n) b.core.service ≡ false → (x : Mastership) → x ≡ service_after (ask_of b k n) b.core.service
        → Leaves history (of_kind (kind_of k) n (state_of b history)) (plain step_done (with_desk x b.core.controllers b))
    desk-quiet _ join z p x e = let w : ◌≡◌ {A = ℕ} 0 1 = cc in absurd (omega arith)
    desk-quiet _ leave z p x e = called-leaves b n history 2 R.leave refl is-node (leave-quiet b n a z p history x e _ refl)
