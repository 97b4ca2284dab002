-- No second answer: of every function that the README offers, of the calls for C, and of the texts that the programs print; of `run`, in proofs/One. Assumes nothing.
use Rattle.contracts.specs.Contract.{One, one}
use Rattle.contracts.specs.Calls.{FreshMay, StepMay, OpenStreamsMay, InRangeMay, IndependentMay, HostRunMay, TranscriptMay, WriteMay, WriteCallMay, HostWriteMay, ListFromMay, TextOfMay, CompareMay, SameMergeMay, HostSameMergeMay, ReportMay, AnswerMay, ReadMay, ReadIntoMay, HostReadArbitrationMay, PrintoutMay, ReadFrameMay, LooksStreamedMay, FrameIntoMay, HostReadFrameMay, ShownMay, EndedMay}
use Rattle.contracts.specs.Only.{only-fresh, only_step, only-open-streams, only-in-range, only-independent, only-host-run, only-transcript, only-write, only-write-call, only-host-write, only-list-from, only-text-of, only-compare, only-same-merge, only-host-same-merge, only-report, only-answer, only-read, only-read-into, only-host-read-arbitration, only-printout, only-read-frame, only-looks-streamed, only-frame-into, only-host-read-frame, only-shown, only-ended}

pub one-fresh : One FreshMay
one-fresh = one _ _ _ only-fresh

pub one-step : One StepMay
one-step = one _ _ _ only_step

pub one-open-streams : One OpenStreamsMay
one-open-streams = one _ _ _ only-open-streams

pub one-in-range : One InRangeMay
one-in-range = one _ _ _ only-in-range

pub one-independent : One IndependentMay
one-independent = one _ _ _ only-independent

pub one-host-run : One HostRunMay
one-host-run = one _ _ _ only-host-run

pub one-transcript : One TranscriptMay
one-transcript = one _ _ _ only-transcript

pub one-write : One WriteMay
one-write = one _ _ _ only-write

pub one-write-call : One WriteCallMay
one-write-call = one _ _ _ only-write-call

pub one-host-write : One HostWriteMay
one-host-write = one _ _ _ only-host-write

pub one-list-from : One ListFromMay
one-list-from = one _ _ _ only-list-from

pub one-text-of : One TextOfMay
one-text-of = one _ _ _ only-text-of

pub one-compare : One CompareMay
one-compare = one _ _ _ only-compare

pub one-same-merge : One SameMergeMay
one-same-merge = one _ _ _ only-same-merge

pub one-host-same-merge : One HostSameMergeMay
one-host-same-merge = one _ _ _ only-host-same-merge

pub one-report : One ReportMay
one-report = one _ _ _ only-report

pub one_answer : One AnswerMay
one_answer = one _ _ _ only-answer

pub one-read : One ReadMay
one-read = one _ _ _ only-read

pub one-read-into : One ReadIntoMay
one-read-into = one _ _ _ only-read-into

pub one-host-read-arbitration : One HostReadArbitrationMay
one-host-read-arbitration = one _ _ _ only-host-read-arbitration

pub one-printout : One PrintoutMay
one-printout = one _ _ _ only-printout

pub one-read-frame : One ReadFrameMay
one-read-frame = one _ _ _ only-read-frame

pub one-looks-streamed : One LooksStreamedMay
one-looks-streamed = one _ _ _ only-looks-streamed

pub one-frame-into : One FrameIntoMay
one-frame-into = one _ _ _ only-frame-into

pub one-host-read-frame : One HostReadFrameMay
one-host-read-frame = one _ _ _ only-host-read-frame

pub one-shown : One ShownMay
one-shown = one _ _ _ only-shown

pub one_ended : One EndedMay
one_ended = one _ _ _ only-ended
