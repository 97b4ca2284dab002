-- MasterArbitrationUpdate of p4runtime.proto, release 1.0.0:
--   uint64 device_id = 1; Role role = 2; Uint128 election_id = 3; google.rpc.Status status = 4;
--   Role: uint64 id = 1; Uint128: uint64 high = 1, uint64 low = 2; Status: int32 code = 1.
-- Role's config, Status's message and its details are not asked for, so that they are unknown fields here.
use Rattle.std.specs.Prelude.{cond, List, ℕ, eqb, Ok}
use Rattle.std.proofs.Math.Option.{Option, none, some}
use Rattle.wire_fields.specs.Fields.{Field, varint, fixed, bytes}
use Rattle.wire_fields.specs.Messages.{Reading, mapped, message}

pub record Role : Type 0 where
  pub id : Option ℕ

pub record Uint128 : Type 0 where
  pub high : Option ℕ
  pub low : Option ℕ

pub record Status : Type 0 where
  pub code : Option ℕ

-- What a message says: each scalar and each embedded message that it gives.
pub record Update : Type 0 where
  pub device : Option ℕ
  pub role : Option Role
  pub election : Option Uint128
  pub status : Option Status

abbrev pub no_role : Role
no_role = record { id = none }

abbrev pub no_election : Uint128
no_election = record { high = none; low = none }

abbrev pub no_status : Status
no_status = record { code = none }

abbrev pub nothing : Update
nothing = record { device = none; role = none; election = none; status = none }

abbrev pub or_else : {A : Type 0} → A → Option A → A
or_else default none = default
or_else default (some a) = a

-- The scalar of field number n: the last one wins, and a field of another number or wire type is skipped.
abbrev pub scalar : ℕ → Field → Option ℕ → Option ℕ
scalar n (varint k value) old = cond (eqb k n) (some value) old
scalar n (fixed k) old = old
scalar n (bytes k held) old = old

abbrev pub in_role : Field → Role → Role
in_role f r = record { id = scalar 1 f r.id }

abbrev pub in_election : Field → Uint128 → Uint128
in_election f e = record { high = scalar 1 f e.high; low = scalar 2 f e.low }

abbrev pub in_status : Field → Status → Status
in_status f s = record { code = scalar 1 f s.code }

-- An embedded message is read on top of what an earlier one gave, and is present from then on.
abbrev pub embedded : {A : Type 0} → (Field → A → A) → A → Option A → List ℕ → Reading (Option A)
embedded inside blank old held = mapped some (message (λ f a. Ok (inside f a)) (or_else blank old) held)

abbrev pub with_role : Update → Option Role → Update
with_role u r = record { device = u.device; role = r; election = u.election; status = u.status }

abbrev pub with_election : Update → Option Uint128 → Update
with_election u e = record { device = u.device; role = u.role; election = e; status = u.status }

abbrev pub with_status : Update → Option Status → Update
with_status u s = record { device = u.device; role = u.role; election = u.election; status = s }

-- What a field makes of what those before it have given.
abbrev pub took : Field → Update → Reading Update
took (varint k value) u = Ok (record { device = scalar 1 (varint k value) u.device; role = u.role; election = u.election; status = u.status })
took (fixed k) u = Ok u
took (bytes k held) u =
    cond (eqb k 2) (mapped (with_role u) (embedded in_role no_role u.role held))
    (cond (eqb k 3) (mapped (with_election u) (embedded in_election no_election u.election held))
    (cond (eqb k 4) (mapped (with_status u) (embedded in_status no_status u.status held))
    (Ok u)))

unfoldable pub reading : List ℕ → Reading Update
reading l = message took nothing l
