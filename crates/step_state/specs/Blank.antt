-- What is blank in every row: the core of a fresh state, and the board after a shutdown. Assumes nothing.
use Rattle.std.specs.Prelude.{◌≡◌, refl, false, List, [], ◌∷◌, map, ℕ, zero, suc, get_or, replicate}
use Rattle.std.proofs.Common.{sym, ◌∙◌}
use Rattle.rules.specs.Limits.{most_nodes}
use Rattle.rules.specs.State as S
use Rattle.rules.specs.Election.{elected}
use Rattle.rules.specs.Rules.{cleared}
use Rattle.rules.specs.Step.{fresh}
use Rattle.rules_laws.specs.Elections.{none-win}
use Rattle.any_list.specs.Tables.{table-ext}
use Rattle.step_parts.specs.Hold.{pack_mastership}
use Rattle.step_state.specs.Hold.{pack_controller, pack_stream, controller_row, stream_row, id_row, term_row, pack_controllers, pack_streams, pack_elected, pack_claims, pack_core}
use Rattle.step_state.specs.Stores.{pack_board, bare}

-- A column of blanks, however long it is.
abbrev Blank : {A : Type 0} → A → List A → Type 0
Blank d l = (i : ℕ) → get_or l i d ≡ d

same : {A : Type 0} (count : ℕ) (d : A) → Blank d (replicate count d)
same zero d i = refl
same (suc count) d zero = refl
same (suc count) d (suc i) = same count d i

gone : {A : Type 0} (d : A) (l : List A) → Blank d (map (λ x. d) l)
gone d [] i = refl
gone d (x ∷ l) zero = refl
gone d (x ∷ l) (suc i) = gone d l i

record BlankBoard (w : S.Board) : Type 0 where
  opens : Blank false w.opens
  sent : Blank 0 w.sent
  requests : Blank [] w.requests
  responses : Blank [] w.responses
  ids : Blank 0 w.held.ids
  kept : w.held ≡ elected w.held.ids
  terms : Blank 0 w.terms

nobody-wins : (w : S.Board) → BlankBoard w → w.held ≡ record { ids = w.held.ids; master = 0; largest = 0 }
nobody-wins w b = b.kept ∙ none-win w.held.ids b.ids

bare-board : (w : S.Board) → BlankBoard w → pack_board (bare w.last) ≡ pack_board w
unfolding pack_streams pack_claims
bare-board w b = λ j. record {
  streams = sym (table-ext most_nodes (λ i. pack_stream false 0 [] []) (stream_row w)
      (λ i k. pack_stream (b.opens i k) (b.sent i k) (b.requests i k) (b.responses i k))) j;
  claims = record {
    ids = sym (table-ext most_nodes (id_row []) (id_row w.held.ids) (λ i k. record { 0 = b.ids i k })) j;
    terms = sym (table-ext most_nodes (term_row []) (term_row w.terms) (λ i k. record { 0 = b.terms i k })) j;
    elected = pack_elected (sym (nobody-wins w b) j);
    last = record { 0 = w.last };
  };
}

fresh-bare : (count : ℕ) → pack_board (bare 0) ≡ pack_board (fresh count).core.board
unfolding fresh elected
fresh-bare count = bare-board (fresh count).core.board (record {
  opens = same count false;
  sent = same count 0;
  requests = same count [];
  responses = same count [];
  ids = same count 0;
  kept = refl;
  terms = same count 0;
})

-- A fresh core is blank in every row, however many nodes there are.
pub blank-core : (count : ℕ) → record {
  service = pack_mastership S.blank;
  controllers = pack_controllers [] [] [];
  streams = pack_streams (bare 0);
  claims = pack_claims (bare 0);
} ≡ pack_core (fresh count).core
unfolding pack_core fresh pack_controllers
blank-core count = λ j. record {
  service = pack_mastership S.blank;
  controllers = sym (table-ext most_nodes (λ i. pack_controller [] S.blank false) (controller_row (replicate count []) (replicate count S.blank) (replicate count false))
      (λ i k. pack_controller (same count [] i k) (same count S.blank i k) (same count false i k))) j;
  streams = (fresh-bare count j).streams;
  claims = (fresh-bare count j).claims;
}

-- So is a board that is cleared, but for the last accepted term.
pub cleared-bare : (w : S.Board) → pack_board (bare w.last) ≡ pack_board (cleared w)
unfolding cleared elected
cleared-bare w = bare-board (cleared w) (record {
  opens = gone false w.opens;
  sent = gone 0 w.sent;
  requests = gone [] w.requests;
  responses = gone [] w.responses;
  ids = gone 0 w.held.ids;
  kept = refl;
  terms = gone 0 w.terms;
})
