-- A step of a state in range, from the step of its body and its history. Assumes nothing.
use Rattle.std.specs.Prelude.{◌≡◌, Bool, ◌&&◌, List, [], ◌++◌, Option, Some, None, OnSome, T, length}
use Rattle.std.proofs.Math.Path.{refl, sym, ap}
use Rattle.std.proofs.Common.{◌∙◌, append-nil, length-append}
use Rattle.std.proofs.Math.Bool.{true, false}
use Prim.Native.Nat.{ℕ, ◌≤◌, ◌<◌}
use native.Mathlib.Omega.{arith}
use Rattle.rules.specs.Limits.{most_nodes, history_length}
use Rattle.rules.specs.State as S
use Rattle.rules.specs.Range.{in_range}
use Rattle.rules.specs.Part.{Result}
use Rattle.rules.specs.Step.{Event, kind_of, of_kind, of_state, step}
use Rattle.rules.specs.Open.{Report, open_report, word_of, open_number}
use Rattle.rules_laws.specs.RangeTest.{range-sound, range-complete}
use Rattle.rules_laws.specs.Steps.{step_keeps}
use Rattle.any_list.specs.Arrays.{column}
use Rattle.step_state.specs.Hold.{open_at, pack_history, pack_core, hold_history, hold_core, hold_board, hold, represent}
use Rattle.step_parts.specs.Hold.{hold_write}
use Rattle.step_state.specs.Stores.{hold_accepted}
use Rattle.step_state.specs.Tidy.{tidy_core, tidy_history, state_fits}
use Rattle.step_state.specs.declared.State.{State}
use Rattle.step_state.specs.declared.History.{History}
use Rattle.step_state.specs.declared.Body.{Body}
use Rattle.step_parts.specs.declared.Write.{Write}
use Rattle.step_moves.specs.Bodies.{state_of, Ready, Leaves, Left}
use Rattle.step.specs.Public.{stepped, reported}
use Rattle.step.specs.Settling.{appended, appended-held, grown, settled_as}

abbrev pub body_in : State → Body
body_in s = record { count = s.count; running = s.running; core = s.core }

last_of : (a b c : Bool) → (a && b && c) ≡ true → c ≡ true
last_of true true c e = e
last_of true false c e = let z : ◌≡◌ {A = ℕ} 0 1 = cc in absurd (omega arith)
last_of false b c e = let z : ◌≡◌ {A = ℕ} 0 1 = cc in absurd (omega arith)

module _ (s : State) (fits : state_fits s ≡ true) where
  held-range : in_range (hold s) ≡ true
  unfolding state_fits
  held-range = last_of (tidy_core s.count s.core) (tidy_history s.history) (in_range (hold s)) fits

  held_fits : T (in_range (hold s))
  held_fits = rw held-range tt

  pub few-nodes : s.count ≤ most_nodes
  unfolding hold
  few-nodes = (range-sound (hold s) held_fits).count.upper

  pub reports : (r : Report) → r ≡ record { code = 0; word = word_of (column open_at s.count s.core.streams); number = open_number (column open_at s.count s.core.streams) } → r ≡ reported s
  unfolding reported open_report hold hold_core hold_board
  reports r e = simp (fits, held-range) e

  module _ (same : represent (hold s) ≡ s) where
    held : List S.Write
    held = hold_history s.history

    history-same : pack_history (hold_history s.history) ≡ s.history
    unfolding hold represent
    history-same = ap (λ (x : State). x.history) same

    pub long : length (hold_history s.history) ≡ s.history.len
    unfolding pack_history
    long = ap (λ (h : History). h.len) history-same

    pub ready : Ready (body_in s)
    unfolding hold represent
    ready = let r = range-sound (hold s) held_fits in record {
      fits = range-complete (state_of (body_in s) []) (record { count = r.count; core = r.core; history-size = omega arith; history = tt });
      same = λ i. record { count = s.count; running = s.running; core = (same i).core };
    }

    module _ (kind node : ℕ) (m : Left) (leaves : Leaves (hold_history s.history) (of_kind (kind_of kind) node (state_of (body_in s) (hold_history s.history))) m) where
      abbrev event : Event
      event = record { kind = kind; node = node }

      t : Result ℕ S.State
      t = of_kind (kind_of kind) node (state_of (body_in s) (hold_history s.history))

      is-step : step event (hold s) ≡ t
      unfolding step hold t
      is-step = ap (λ (b : Bool). of_state b event (hold s)) held-range

      grown-by : t.state.history ≡ held ++ hold_accepted m.accepted
      unfolding t held
      grown-by = leaves.history-grows

      short : length t.state.history ≤ history_length
      short = (range-sound t.state (rw is-step at (step_keeps event (hold s) held_fits))).history-size

      fits_in : (w : Write) → m.accepted ≡ Some w → length held < history_length
      fits_in w e =
          let n = ap length grown-by ∙ length-append held (hold_accepted m.accepted) in
          let k : length (hold_accepted m.accepted) ≡ 1 = ap (λ (o : Option Write). length (hold_accepted o)) e in
          let z = short in
          omega arith

      pub room-left : OnSome m.accepted (s.history.len < history_length)
      unfolding held
      room-left = go m.accepted refl
        where
          go : (o : Option Write) → m.accepted ≡ o → OnSome o (s.history.len < history_length)
          go None e = tt
          go (Some w) e = let f = fits_in w e in let l = long in omega arith

      pub settles : record { answer = m.code; state = settled_as m.body s.history m.accepted } ≡ stepped s kind node
      unfolding stepped represent t held
      settles = simp fits (λ i. record {
        answer = (leaves.code ∙ ap (λ (x : Result ℕ S.State). x.answer) (sym is-step)) i;
        state = record {
          count = (ap (λ (b : Body). b.count) leaves.body ∙ ap (λ (x : Result ℕ S.State). x.state.count) (sym is-step)) i;
          running = (ap (λ (b : Body). b.running) leaves.body ∙ ap (λ (x : Result ℕ S.State). x.state.running) (sym is-step)) i;
          core = (ap (λ (b : Body). b.core) leaves.body ∙ ap (λ (x : Result ℕ S.State). pack_core x.state.core) (sym is-step)) i;
          history = (go m.accepted refl ∙ ap pack_history (sym grown-by) ∙ ap (λ (x : Result ℕ S.State). pack_history x.state.history) (sym is-step)) i;
        };
      })
        where
          go : (o : Option Write) → m.accepted ≡ o → grown o s.history ≡ pack_history (held ++ hold_accepted o)
          go (Some w) e = ap (appended w) (sym history-same) ∙ appended-held held (hold_write w) (fits_in w e)
          go None e = sym history-same ∙ ap pack_history (sym (append-nil held))
