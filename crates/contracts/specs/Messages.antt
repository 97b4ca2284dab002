-- Arbitration messages that tell wrong readers apart: all that the contracts of `read`, `read_into` and `printout` let be said of them. Assumes nothing.
use Rattle.std.specs.Prelude.{◌≡◌, refl, true, List, [], ◌∷◌, ◌++◌, ℕ, negsuc, replicate, None, Some, Result, Ok, Err}
use Rattle.wire_fields.specs.declared.Fault.{Fault}
use Rattle.wire_fields.specs.declared.Fault.TheVariants.{CutShort, TooLarge}
use Rattle.wire_arbitration.specs.declared.Arbitration.{Arbitration}
use Rattle.wire_text.specs.Printout as P
use Rattle.contracts.specs.Contract.{Gives}
use Rattle.contracts.specs.Opened.{messages}
use Rattle.contracts.specs.Calls.{ReadMay, ReadIntoMay}
use Rattle.contracts.specs.Only.{only-read, only-read-into}

-- device_id 7, role { id 5 }, election_id { high 1 low 2 }, status { code -5 }
abbrev pub worked : List ℕ
worked = 8 ∷ 7 ∷ 18 ∷ 2 ∷ 8 ∷ 5 ∷ 26 ∷ 4 ∷ 8 ∷ 1 ∷ 16 ∷ 2 ∷ 34 ∷ 11 ∷ 8 ∷ 251 ∷ 255 ∷ 255 ∷ 255 ∷ 255 ∷ 255 ∷ 255 ∷ 255 ∷ 255 ∷ 1 ∷ []

abbrev fields : Result Arbitration Fault
fields = Ok (record { device = 7; role = Some (record { id = 5 }); election = Some (record { high = 1; low = 2 }); status = Some (record { code = negsuc 4 }) })

pub read-worked : Gives ReadMay worked fields tt
unfolding messages
read-worked = only-read worked

-- Each number with its least byte first, what is present, and a 0; the byte behind them stays.
abbrev packed : List ℕ
packed = (7 ∷ replicate 7 0) ++ (5 ∷ replicate 7 0) ++ (1 ∷ replicate 7 0) ++ (2 ∷ replicate 7 0) ++ (251 ∷ 255 ∷ 255 ∷ 255 ∷ []) ++ (1 ∷ 1 ∷ 1 ∷ 0 ∷ []) ++ (9 ∷ [])

pub read-into-worked : Gives ReadIntoMay (worked, replicate 41 9) 0 packed
unfolding messages
read-into-worked = only-read-into (worked, replicate 41 9)

-- A byte of the buffer too few.
pub read-into-short : Gives ReadIntoMay (worked, replicate 39 9) 12 (replicate 39 9)
unfolding messages
read-into-short = only-read-into (worked, replicate 39 9)

-- The lines of the fields; the last is "status.code -5".
abbrev pub printed : List ℕ
printed =
    P.number_line P.device_word 7 ++ P.flag_line P.role_word true ++ P.number_line P.role_id_word 5
    ++ P.flag_line P.election_word true ++ P.number_line P.high_word 1 ++ P.number_line P.low_word 2
    ++ P.flag_line P.status_word true ++ P.code_word ++ (45 ∷ 53 ∷ 10 ∷ [])

pub worked-printed : P.printout worked ≡ printed
unfolding messages
worked-printed = refl

-- A number in field 2 is not the device id: nothing is said.
pub read-other-number : Gives ReadMay (16 ∷ 1 ∷ []) (Ok (record { device = 0; role = None; election = None; status = None })) tt
unfolding messages
read-other-number = only-read (16 ∷ 1 ∷ [])

-- The first fault is that in the role, which is cut short, and not the bad tag behind it.
pub read-first-fault : Gives ReadMay (18 ∷ 1 ∷ 8 ∷ 0 ∷ []) (Err CutShort) tt
unfolding messages
read-first-fault = only-read (18 ∷ 1 ∷ 8 ∷ 0 ∷ [])

-- A number in eleven bytes.
pub read-eleventh-byte : Gives ReadMay (8 ∷ replicate 10 128 ++ (0 ∷ [])) (Err TooLarge) tt
unfolding messages
read-eleventh-byte = only-read (8 ∷ replicate 10 128 ++ (0 ∷ []))
