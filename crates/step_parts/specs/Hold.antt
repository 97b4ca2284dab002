-- What the structs hold, in the words of the rules, and how the rules' values are written into structs: behind what is in use, blanks.
use Rattle.std.specs.Prelude.{List, [], ℕ, length, take}
use Rattle.rules.specs.Limits.{most_backups}
use Rattle.rules.specs.State as S
use Rattle.any_list.specs.Arrays.{padded, packed, held}
use Rattle.any_list.specs.Arrays as A
use Rattle.step_parts.specs.declared.Mastership.{Mastership}
use Rattle.step_parts.specs.declared.Message.{Message}
use Rattle.step_parts.specs.declared.Message.TheVariants as M
use Rattle.step_parts.specs.declared.Status.{Status}
use Rattle.step_parts.specs.declared.Status.TheVariants as T
use Rattle.step_parts.specs.declared.Request.{Request}
use Rattle.step_parts.specs.declared.Response.{Response}
use Rattle.step_parts.specs.declared.Queue.{Queue}
use Rattle.step_parts.specs.declared.Write.{Write}

-- ---- masterships

abbrev pub hold_mastership : Mastership → S.Mastership
hold_mastership m = record { term = m.term.0; master = m.master; backups = take m.len m.backups }

abbrev pub as_is : ℕ → ℕ
as_is x = x

abbrev pub pack_mastership : S.Mastership → Mastership
pack_mastership m = record { term = record { 0 = m.term }; master = m.master; backups = padded 0 as_is most_backups m.backups; len = length m.backups }

-- at an unused place
abbrev pub no_mastership : Mastership
no_mastership = pack_mastership S.blank

-- what the logic has for a read past the end of an array of masterships
abbrev pub past_mastership : Mastership
past_mastership = record { term = record { 0 = 0 }; master = 0; backups = []; len = 0 }

-- ---- messages

abbrev pub hold_message : Message → S.Message
hold_message M.Nothing = S.update
hold_message M.Update = S.update
hold_message M.Write = S.write

abbrev pub pack_message : S.Message → Message
pack_message S.update = M.Update
pack_message S.write = M.Write

abbrev pub hold_status : Status → S.Status
hold_status T.Nothing = S.permission_denied
hold_status T.Ok = S.ok
hold_status T.AlreadyExists = S.already_exists
hold_status T.NotFound = S.not_found
hold_status T.PermissionDenied = S.permission_denied

abbrev pub pack_status : S.Status → Status
pack_status S.ok = T.Ok
pack_status S.already_exists = T.AlreadyExists
pack_status S.not_found = T.NotFound
pack_status S.permission_denied = T.PermissionDenied

abbrev pub hold_request : Request → S.Request
hold_request r = record { message = hold_message r.message; id = r.id.0; term = r.term.0 }

abbrev pub pack_request : S.Request → Request
pack_request r = record { message = pack_message r.message; id = record { 0 = r.id }; term = record { 0 = r.term } }

abbrev pub hold_response : Response → S.Response
hold_response r = record { message = hold_message r.message; status = hold_status r.status; id = r.id.0 }

abbrev pub pack_response : S.Response → Response
pack_response r = record { message = pack_message r.message; status = pack_status r.status; id = record { 0 = r.id } }

-- at an unused place
abbrev pub no_request : Request
no_request = record { message = M.Nothing; id = record { 0 = 0 }; term = record { 0 = 0 } }

abbrev pub no_response : Response
no_response = record { message = M.Nothing; status = T.Nothing; id = record { 0 = 0 } }

-- ---- accepted writes

abbrev pub hold_write : Write → S.Write
hold_write e = record { node = e.node; term = e.term.0 }

abbrev pub pack_write : S.Write → Write
pack_write e = record { node = e.node; term = record { 0 = e.term } }

-- ---- the queues, stated once, over the element type

abbrev pub places : {T : Type 0} → Queue T → A.Queue T
places q = record { items = q.items; len = q.len }

abbrev pub of_places : {T : Type 0} → A.Queue T → Queue T
of_places q = record { items = q.items; len = q.len }

-- A list of the rules in a queue, each element written by `rep`, and the list that a queue holds, each read by `hold`.
abbrev pub pack_queue : {X T : Type 0} → T → (X → T) → List X → Queue T
pack_queue blank rep l = of_places (packed blank rep l)

abbrev pub hold_queue : {X T : Type 0} → (T → X) → Queue T → List X
hold_queue hold q = held hold (places q)

-- ---- the three queues

abbrev pub EventQueue : Type 0
EventQueue = Queue Mastership

abbrev pub RequestQueue : Type 0
RequestQueue = Queue Request

abbrev pub ResponseQueue : Type 0
ResponseQueue = Queue Response

abbrev pub pack_events : List S.Mastership → EventQueue
pack_events l = pack_queue no_mastership pack_mastership l

abbrev pub hold_events : EventQueue → List S.Mastership
hold_events q = hold_queue hold_mastership q

abbrev pub pack_requests : List S.Request → RequestQueue
pack_requests l = pack_queue no_request pack_request l

abbrev pub hold_requests : RequestQueue → List S.Request
hold_requests q = hold_queue hold_request q

abbrev pub pack_responses : List S.Response → ResponseQueue
pack_responses l = pack_queue no_response pack_response l

abbrev pub hold_responses : ResponseQueue → List S.Response
hold_responses q = hold_queue hold_response q
