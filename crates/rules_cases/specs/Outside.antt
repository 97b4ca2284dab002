-- States in range, and states out of range by one thing alone: a step of any kind answers 1 there. Assumes nothing.
use Rattle.std.specs.Prelude.{◌≡◌, true, false, List, [], ◌∷◌, map, ◌++◌}
use Rattle.rules.specs.State.{update, write, already_exists, not_found, permission_denied, Response, Held, State}
use Rattle.rules.specs.Range.{in_range}
use Rattle.rules.specs.Parts.{with_core, with_board, receive_part, on_device, link_part}
use Rattle.rules.specs.Step.{fresh}
use Rattle.rules_laws.specs.All.{All}
use Rattle.rules_laws.specs.Computed.{computed}
use Rattle.rules_laws.specs.Tests.{is-not, is-yes, is_all}
use Rattle.rules_cases.specs.Names.{is_master, is_not, is_none, accepted, denied}

-- Two nodes; node 1's stream is open, and the response waits on it.
abbrev waiting : Response → State
waiting r = (receive_part 1).put (record { says = false; responses = r ∷ [] }) ((on_device (link_part 1)).put true (fresh 2))

-- Two nodes with open streams; the switch holds this.
abbrev keeping : Held → State
keeping h =
    let s = (on_device (link_part 2)).put true ((on_device (link_part 1)).put true (fresh 2)) in
    let b = s.core.board in
    with_core (with_board (record {
      opens = b.opens;
      sent = b.sent;
      requests = b.requests;
      responses = b.responses;
      held = h;
      terms = b.terms;
      last = b.last;
    }) s.core) s

-- Of an update: Ok, AlreadyExists or NotFound, with any id to 10,008, 0 too. Of a write: Ok or PermissionDenied, without an id.
abbrev fitting : List State
fitting = map waiting
    (is_master 0 ∷ is_master 10008 ∷ is_not 0 ∷ is_not 10008 ∷ is_none 0 ∷ is_none 10008 ∷ accepted ∷ denied ∷ [])

abbrev unfitting : List State
unfitting = map waiting
    (is_master 10009 ∷ is_not 10009 ∷ is_none 10009
    ∷ record { message = update; status = permission_denied; id = 0 }
    ∷ record { message = write; status = already_exists; id = 0 }
    ∷ record { message = write; status = not_found; id = 0 }
    ∷ record { message = write; status = permission_denied; id = 1 }
    ∷ [])

-- The ids, then the master and the largest id that are kept with them: what the ids give, and nothing else.
abbrev kept : List State
kept = map keeping
    (record { ids = 3 ∷ 2 ∷ []; master = 1; largest = 3 }
    ∷ record { ids = 2 ∷ 3 ∷ []; master = 2; largest = 3 }
    ∷ record { ids = 0 ∷ 0 ∷ []; master = 0; largest = 0 }
    ∷ [])

abbrev not_kept : List State
not_kept = map keeping
    (record { ids = 3 ∷ 2 ∷ []; master = 2; largest = 3 }
    ∷ record { ids = 3 ∷ 2 ∷ []; master = 0; largest = 3 }
    ∷ record { ids = 3 ∷ 2 ∷ []; master = 1; largest = 4 }
    ∷ record { ids = 3 ∷ 2 ∷ []; master = 1; largest = 2 }
    ∷ record { ids = 3 ∷ 2 ∷ []; master = 1; largest = 0 }
    ∷ record { ids = 0 ∷ 0 ∷ []; master = 1; largest = 0 }
    ∷ record { ids = 0 ∷ 0 ∷ []; master = 0; largest = 3 }
    ∷ [])

abbrev pub inside : List State
inside = fitting ++ kept

abbrev pub outside : List State
outside = unfitting ++ not_kept

pub are-inside : All (λ s. in_range s ≡ true) inside
unfolding computed
are-inside = (is_all (λ s. is-yes (in_range s)) inside).to tt

pub are-outside : All (λ s. in_range s ≡ false) outside
unfolding computed
are-outside = (is_all (λ s. is-not (in_range s)) outside).to tt
