-- The calls of the public functions: what each is given, and what it may return and leave by its contract. Where nothing is lent by `&mut`, nothing is left: `tt`.
use Rattle.std.specs.Prelude.{Bool, List, ℕ, Result}
use Rattle.step_state.specs.declared.State.{State}
use Rattle.step.specs.declared.Stepped.{Stepped}
use Rattle.step.specs.declared.Open.{Open}
use Rattle.step_parts.specs.declared.Refusal.{Refusal}
use Rattle.wire_arbitration.specs.declared.Arbitration.{Arbitration}
use Rattle.wire_fields.specs.declared.Fault.{Fault}
use Rattle.wire_frames.specs.declared.Refusal as Frames
use Rattle.wire_frames.specs.declared.Frame.{Frame}
use Rattle.merge_compare.specs.declared.Verdict.{Verdict}
use Rattle.merge_compare.specs.declared.Refused.{Refused}
use Rattle.step.proofs.fresh.Reads as Fresh
use Rattle.step.proofs.step.Reads as Step
use Rattle.step.proofs.open_streams.Reads as OpenStreams
use Rattle.step_range.proofs.in_range.Reads as InRange
use Rattle.merge_independence.proofs.independent.Reads as Independent
use Rattle.run.proofs.run.Reads as Run
use Rattle.run_text.proofs.transcript.Reads as Transcript
use Rattle.list_write.proofs.write.Reads as Write
use Rattle.list_write.proofs.write_call.Reads as WriteCall
use Rattle.list_source.proofs.list_from.Reads as ListFrom
use Rattle.list_text.proofs.text_of.Reads as TextOf
use Rattle.merge_compare.proofs.compare.Reads as Compare
use Rattle.merge_call.proofs.same_merge.Reads as SameMerge
use Rattle.merge_text.proofs.report.Reads as Reports
use Rattle.log_text.proofs.answer.Reads as Answer
use Rattle.wire_arbitration.proofs.read.Reads as Read
use Rattle.wire_bytes.proofs.read_into.Reads as ReadInto
use Rattle.wire_text.proofs.printout.Reads as Printout
use Rattle.wire_frames.proofs.read_frame.Reads as ReadFrame
use Rattle.wire_frames.proofs.looks_streamed.Reads as LooksStreamed
use Rattle.wire_frames_bytes.proofs.frame_into.Reads as FrameInto
use Rattle.wire_frames_text.proofs.shown.Reads as Shown
use Rattle.wire_frames_text.proofs.ended.Reads as Ended
use Rattle.hoefspanker.proofs.hoefspanker_run.Reads as HostRun
use Rattle.hoefspanker.proofs.hoefspanker_same_merge.Reads as HostSameMerge
use Rattle.hoefspanker.proofs.hoefspanker_write.Reads as HostWrite
use Rattle.hoefspanker.proofs.hoefspanker_read_arbitration.Reads as HostReadArbitration
use Rattle.hoefspanker.proofs.hoefspanker_read_frame.Reads as HostReadFrame
use Rattle.contracts.specs.Contract.{May}

-- ---- a state

-- fresh(nodes)
abbrev pub FreshMay : ℕ → Stepped → Unit {0} → Type 0
FreshMay = May Fresh.Post (λ κs a. a.0) (λ κs e. tt)

-- step(state, kind, node)
abbrev pub StepMay : State × ℕ × ℕ → Stepped → Unit {0} → Type 0
StepMay = May Step.Post (λ κs a. (a.0, a.1.0, a.1.1.0)) (λ κs e. tt)

-- open_streams(state)
abbrev pub OpenStreamsMay : State → Result Open Refusal → Unit {0} → Type 0
OpenStreamsMay = May OpenStreams.Post (λ κs a. a.0) (λ κs e. tt)

-- in_range(state)
abbrev pub InRangeMay : State → Bool → Unit {0} → Type 0
InRangeMay = May InRange.Post (λ κs a. a.0) (λ κs e. tt)

-- independent(nodes, kind_a, node_a, kind_b, node_b)
abbrev pub IndependentMay : ℕ × ℕ × ℕ × ℕ × ℕ → Bool → Unit {0} → Type 0
IndependentMay = May Independent.Post (λ κs a. (a.0, a.1.0, a.1.1.0, a.1.1.1.0, a.1.1.1.1.0)) (λ κs e. tt)

-- ---- a list

-- run(list, out): the bytes of both; then those of the buffer
abbrev pub RunMay : List ℕ × List ℕ → ℕ → List ℕ → Type 0
RunMay = May Run.Post (λ κs a. (a.0.now, a.1.0.now)) (λ κs e. e.1.0.now)

abbrev pub HostRunMay : List ℕ × List ℕ → ℕ → List ℕ → Type 0
HostRunMay = May HostRun.Post (λ κs a. (a.0.now, a.1.0.now)) (λ κs e. e.1.0.now)

-- transcript(list, buf)
abbrev pub TranscriptMay : List ℕ × List ℕ → ℕ → List ℕ → Type 0
TranscriptMay = May Transcript.Post (λ κs a. (a.0.now, a.1.0.now)) (λ κs e. e.1.0.now)

-- write(nodes, steps, out)
abbrev pub WriteMay : ℕ × List ℕ × List ℕ → Result ℕ Refusal → List ℕ → Type 0
WriteMay = May Write.Post (λ κs a. (a.0, a.1.0.now, a.1.1.0.now)) (λ κs e. e.1.1.0.now)

-- write_call(nodes, steps, out)
abbrev pub WriteCallMay : ℕ × List ℕ × List ℕ → ℕ → List ℕ → Type 0
WriteCallMay = May WriteCall.Post (λ κs a. (a.0, a.1.0.now, a.1.1.0.now)) (λ κs e. e.1.1.0.now)

abbrev pub HostWriteMay : ℕ × List ℕ × List ℕ → ℕ → List ℕ → Type 0
HostWriteMay = May HostWrite.Post (λ κs a. (a.0, a.1.0.now, a.1.1.0.now)) (λ κs e. e.1.1.0.now)

-- list_from(text, out, line): then the bytes of both buffers
abbrev pub ListFromMay : List ℕ × List ℕ × List ℕ → Result ℕ ℕ → List ℕ × List ℕ → Type 0
ListFromMay = May ListFrom.Post (λ κs a. (a.0.now, a.1.0.now, a.1.1.0.now)) (λ κs e. (e.1.0.now, e.1.1.0.now))

-- text_of(list, text, line)
abbrev pub TextOfMay : List ℕ × List ℕ × List ℕ → Result ℕ ℕ → List ℕ × List ℕ → Type 0
TextOfMay = May TextOf.Post (λ κs a. (a.0.now, a.1.0.now, a.1.1.0.now)) (λ κs e. (e.1.0.now, e.1.1.0.now))

-- ---- two merges, and a log

-- compare(first, second)
abbrev pub CompareMay : List ℕ × List ℕ → Result Verdict Refused → Unit {0} → Type 0
CompareMay = May Compare.Post (λ κs a. (a.0.now, a.1.0.now)) (λ κs e. tt)

-- same_merge(first, second, places)
abbrev pub SameMergeMay : List ℕ × List ℕ × List ℕ → ℕ → List ℕ → Type 0
SameMergeMay = May SameMerge.Post (λ κs a. (a.0.now, a.1.0.now, a.1.1.0.now)) (λ κs e. e.1.1.0.now)

abbrev pub HostSameMergeMay : List ℕ × List ℕ × List ℕ → ℕ → List ℕ → Type 0
HostSameMergeMay = May HostSameMerge.Post (λ κs a. (a.0.now, a.1.0.now, a.1.1.0.now)) (λ κs e. e.1.1.0.now)

-- report(first, second, buf)
abbrev pub ReportMay : List ℕ × List ℕ × List ℕ → ℕ → List ℕ → Type 0
ReportMay = May Reports.Post (λ κs a. (a.0.now, a.1.0.now, a.1.1.0.now)) (λ κs e. e.1.1.0.now)

-- answer(log, buf)
abbrev pub AnswerMay : List ℕ × List ℕ → ℕ → List ℕ → Type 0
AnswerMay = May Answer.Post (λ κs a. (a.0.now, a.1.0.now)) (λ κs e. e.1.0.now)

-- ---- an arbitration message

-- read(message)
abbrev pub ReadMay : List ℕ → Result Arbitration Fault → Unit {0} → Type 0
ReadMay = May Read.Post (λ κs a. a.0.now) (λ κs e. tt)

-- read_into(message, fields)
abbrev pub ReadIntoMay : List ℕ × List ℕ → ℕ → List ℕ → Type 0
ReadIntoMay = May ReadInto.Post (λ κs a. (a.0.now, a.1.0.now)) (λ κs e. e.1.0.now)

abbrev pub HostReadArbitrationMay : List ℕ × List ℕ → ℕ → List ℕ → Type 0
HostReadArbitrationMay = May HostReadArbitration.Post (λ κs a. (a.0.now, a.1.0.now)) (λ κs e. e.1.0.now)

-- printout(message, buf)
abbrev pub PrintoutMay : List ℕ × List ℕ → ℕ → List ℕ → Type 0
PrintoutMay = May Printout.Post (λ κs a. (a.0.now, a.1.0.now)) (λ κs e. e.1.0.now)

-- ---- a capture

-- read_frame(bytes)
abbrev pub ReadFrameMay : List ℕ → Result Frame Frames.Refusal → Unit {0} → Type 0
ReadFrameMay = May ReadFrame.Post (λ κs a. a.0.now) (λ κs e. tt)

-- looks_streamed(message)
abbrev pub LooksStreamedMay : List ℕ → Bool → Unit {0} → Type 0
LooksStreamedMay = May LooksStreamed.Post (λ κs a. a.0.now) (λ κs e. tt)

-- frame_into(capture, at, out)
abbrev pub FrameIntoMay : List ℕ × ℕ × List ℕ → ℕ → List ℕ → Type 0
FrameIntoMay = May FrameInto.Post (λ κs a. (a.0.now, a.1.0, a.1.1.0.now)) (λ κs e. e.1.1.0.now)

abbrev pub HostReadFrameMay : List ℕ × ℕ × List ℕ → ℕ → List ℕ → Type 0
HostReadFrameMay = May HostReadFrame.Post (λ κs a. (a.0.now, a.1.0, a.1.1.0.now)) (λ κs e. e.1.1.0.now)

-- shown(number, offset, frame, buf)
abbrev pub ShownMay : ℕ × ℕ × Result Frame Frames.Refusal × List ℕ → ℕ → List ℕ → Type 0
ShownMay = May Shown.Post (λ κs a. (a.0, a.1.0, a.1.1.0, a.1.1.1.0.now)) (λ κs e. e.1.1.1.0.now)

-- ended(number, buf)
abbrev pub EndedMay : ℕ × List ℕ → ℕ → List ℕ → Type 0
EndedMay = May Ended.Post (λ κs a. (a.0, a.1.0.now)) (λ κs e. e.1.0.now)
