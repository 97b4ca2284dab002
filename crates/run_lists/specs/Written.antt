-- A buffer as a run fills it: the answers from its front on, and behind the place of the last answer the entries of the history. Assumes nothing.
use Rattle.std.specs.Prelude.{◌≡◌, refl, ℕ, zero, suc, ◌+◌, ◌*◌, ◌≤◌, ◌<◌, length, get_or, set, take, drop}
use Rattle.std.proofs.Common.{sym, ◌∙◌, le_of_suc-le-suc, arith, length-append, length-drop, drop_of_length-le, get_or-append-add, drop-drop}
use Rattle.std.proofs.Math.Path.{ap}
use mathlib.Core.List.{List, [], ◌∷◌, ◌++◌, append_assoc, append-nil}
use Rattle.std.proofs.Math.ListN.{take-append-drop}
use Rattle.std.proofs.lemmas.List.Edits.{sets, sets-eq}
use Rattle.std.proofs.Math.Seq.{set-append_left, length-take-le, take-append_seam, drop-append-add}
use Rattle.rules.specs.State.{Write}
use Rattle.rules.specs.Queues.{push}
use Rattle.run_lists.specs.EventList.{byte_at, entry_bytes, history_bytes, over}
use Rattle.run_lists.specs.Entries.{entry_at, no_write}
use Rattle.run_lists.specs.Stores.{sets_behind}

-- ---- bytes at the front of a buffer

pub over-length : (b l : List ℕ) → length b ≤ length l → length (over b l) ≡ length l
over-length b l h = simp (length-append, length-drop) (omega arith)

-- more bytes stored right behind them
pub over-more : (b c l : List ℕ) → length b + length c ≤ length l → sets (over b l) (length b) c ≡ over (b ++ c) l
over-more b c l h =
    let n = over-length b l (omega arith) in
    sets-eq c (over b l) (length b) (omega arith)
    ∙ rw (take-append_seam b (drop (length b) l), drop-append-add b (drop (length b) l) (length c), drop-drop (length c) (length b) l, length-append b c)

-- ---- the entries of the history

pub history-length : (ws : List Write) → length (history_bytes ws) ≡ 4 * length ws
unfolding history_bytes
history-length [] = refl
history-length (w ∷ ws) = let n = history-length ws in omega arith

pub history-push : (ws : List Write) (w : Write) → history_bytes (push w ws) ≡ history_bytes ws ++ entry_bytes w
unfolding history_bytes push
history-push [] w = refl
history-push (v ∷ ws) w = ap (λ (t : List ℕ). entry_bytes v ++ t) (history-push ws w)

first_entry : (w : Write) (l : List ℕ) → entry_at (entry_bytes w ++ l) 0 ≡ w
first_entry w l = ap (λ (t : ℕ). record { node = w.node; term = t }) (omega arith)

next-entry : (w : Write) (l : List ℕ) (i : ℕ) → entry_at (entry_bytes w ++ l) (suc i) ≡ entry_at l i
next-entry w l i =
    let at : (j k : ℕ) → j ≡ 4 + k → byte_at (entry_bytes w ++ l) j ≡ byte_at l k = λ j k e. rw e (get_or-append-add (entry_bytes w) l k 0) in
    rw (at (4 * suc i) (4 * i) (omega arith), at (4 * suc i + 2) (4 * i + 2) (omega arith), at (4 * suc i + 3) (4 * i + 3) (omega arith))

-- what was written is read
pub entry_read : (ws : List Write) (l : List ℕ) (i : ℕ) → i < length ws → entry_at (history_bytes ws ++ l) i ≡ get_or ws i no_write
unfolding history_bytes
entry_read [] l i h = absurd (omega arith)
entry_read (w ∷ ws) l zero h = first_entry w (history_bytes ws ++ l)
entry_read (w ∷ ws) l (suc i) h = next-entry w (history_bytes ws ++ l) i ∙ entry_read ws l i (le_of_suc-le-suc h)

-- one entry more, in a part of a buffer
pub entries-more : (ws : List Write) (w : Write) (part : List ℕ) → 4 * length ws + 4 ≤ length part
    → sets (over (history_bytes ws) part) (4 * length ws) (entry_bytes w) ≡ over (history_bytes (push w ws)) part
entries-more ws w part h =
    let n = history-length ws in
    rw (history-push ws w, ← n) (over-more (history_bytes ws) (entry_bytes w) part (omega arith))

-- ---- the whole buffer, with room for `total` answers

abbrev pub filled : ℕ → List ℕ → List Write → List ℕ → List ℕ
filled total answers ws out = over answers (take total out) ++ over (history_bytes ws) (drop total out)

module _ (total : ℕ) (out : List ℕ) (fits : total ≤ length out) where
  pub filled_none : filled total [] [] out ≡ out
  unfolding history_bytes
  filled_none = take-append-drop total out

  front : (answers : List ℕ) → length answers ≤ total → length (over answers (take total out)) ≡ total
  front answers h = let n = length-take-le total out fits in over-length answers (take total out) (omega arith) ∙ n

  pub filled-length : (answers : List ℕ) (ws : List Write) → length answers ≤ total → total + 4 * length ws ≤ length out → length (filled total answers ws out) ≡ length out
  filled-length answers ws h k =
      let n = history-length ws in
      let d = length-drop total out in
      let b = over-length (history_bytes ws) (drop total out) (omega arith) in
      length-append (over answers (take total out)) (over (history_bytes ws) (drop total out)) ∙ omega (arith, front answers h)

  -- one answer more
  pub filled-answer : (answers : List ℕ) (ws : List Write) (a : ℕ) → length answers < total
      → set (filled total answers ws out) (length answers) a ≡ filled total (push a answers) ws out
  unfolding push
  filled-answer answers ws a h =
      let n = length-take-le total out fits in
      set-append_left (over answers (take total out)) (over (history_bytes ws) (drop total out)) (length answers) a (let f = front answers (omega arith) in omega arith)
      ∙ ap (λ (t : List ℕ). t ++ over (history_bytes ws) (drop total out)) (over-more answers (a ∷ []) (take total out) (omega arith))

  -- one entry more
  pub filled-entry : (answers : List ℕ) (ws : List Write) (w : Write) → length answers ≤ total → total + 4 * length ws + 4 ≤ length out
      → sets (filled total answers ws out) (total + 4 * length ws) (entry_bytes w) ≡ filled total answers (push w ws) out
  filled-entry answers ws w h k =
      let d = length-drop total out in
      ap (λ (i : ℕ). sets (filled total answers ws out) (i + 4 * length ws) (entry_bytes w)) (sym (front answers h))
      ∙ sets_behind (entry_bytes w) (over answers (take total out)) (over (history_bytes ws) (drop total out)) (4 * length ws)
      ∙ ap (λ (t : List ℕ). over answers (take total out) ++ t) (entries-more ws w (drop total out) (omega arith))

  -- all answers: the history follows at once, and the bytes after it stay
  pub filled-all : (answers : List ℕ) (ws : List Write) → length answers ≡ total → filled total answers ws out ≡ over (answers ++ history_bytes ws) out
  filled-all answers ws e =
      let n = length-take-le total out fits in
      rw (drop_of_length-le (take total out) {i = length answers} (omega arith), append-nil, drop-drop (length (history_bytes ws)) total out, length-append, e, append_assoc)
