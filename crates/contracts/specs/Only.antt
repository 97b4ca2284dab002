-- The only answer that each contract leaves, by the definition that it cites. Assumes nothing.
use Rattle.std.specs.Prelude.{◌≡◌, refl, List, ℕ, length, Result, Ok, Err}
use Rattle.std.proofs.Common.{sym, ap, ap₂, ◌∙◌, arith}
use Rattle.std.proofs.lemmas.List.Edits.{sets}
use Rattle.any_text.specs.Put.{Put}
use Rattle.any_text.specs.Printed.{Output, printing, refusing, out_of, refusal_of, Prints}
use Rattle.step_parts.specs.declared.Refusal.{Refusal}
use Rattle.step_state.specs.Tidy.{state_fits}
use Rattle.step_state.specs.declared.State.{State}
use Rattle.step.specs.declared.Open.{Open}
use Rattle.step.specs.declared.Stepped.{Stepped}
use Rattle.step.specs.Public.{numbered, stepped, freshened, told, reported}
use Rattle.step.specs.Numbers.{unnumbered, numbers-back, untold, told-back}
use Rattle.rules_exchange.specs.Independent.{independent}
use Rattle.run.specs.Ran.{ran}
use Rattle.run_text.specs.Transcript.{transcript}
use Rattle.list_write.specs.Write.{wrote, return_of}
use Rattle.step_parts.specs.Refusals.{answer_in, answer_by}
use Rattle.list_source.specs.Printed.{output}
use Rattle.list_text.specs.Shown as Texts
use Rattle.merge_compare.specs.Compared.{compared}
use Rattle.merge_call.specs.Reply.{reply}
use Rattle.merge_text.specs.Report.{report}
use Rattle.log_text.specs.Answer.{answer}
use Rattle.wire_arbitration.specs.Update.{reading}
use Rattle.wire_arbitration.specs.Arbitration.{arbitration}
use Rattle.wire_bytes.specs.Bytes as Packed
use Rattle.wire_text.specs.Printout.{printout}
use Rattle.wire_frames.specs.Frames.{frame_at, looks_streamed}
use Rattle.wire_frames.specs.declared.Refusal as Frame_refusal
use Rattle.wire_frames.specs.declared.Frame.{Frame}
use Rattle.wire_frames_bytes.specs.Reply.{frame_reply}
use Rattle.wire_frames_text.specs.Shown.{frame_text, end_text}
use Rattle.contracts.specs.Contract.{Gives, Only, only}
use Rattle.contracts.specs.Calls.{FreshMay, StepMay, OpenStreamsMay, InRangeMay, IndependentMay, HostRunMay, TranscriptMay, WriteMay, WriteCallMay, HostWriteMay, ListFromMay, TextOfMay, CompareMay, SameMergeMay, HostSameMergeMay, ReportMay, AnswerMay, ReadMay, ReadIntoMay, HostReadArbitrationMay, PrintoutMay, ReadFrameMay, LooksStreamedMay, FrameIntoMay, HostReadFrameMay, ShownMay, EndedMay}

-- To g, the text t is put at the front of the buffer that is lent, and its length is returned; the bytes behind it stay.
abbrev pub Puts : {G : Type 0} → (G → ℕ → List ℕ → Type 0) → G → List ℕ → List ℕ → Type 0
Puts may g t buffer = Gives may g (length t) (sets buffer 0 t)

-- The same, of a text that is computed.
pub puts : {G : Type 0} (may : G → ℕ → List ℕ → Type 0) (g : G) (buffer : List ℕ) {t u : List ℕ} → t ≡ u → Puts may g t buffer → Puts may g u buffer
puts may g buffer e p r after m = ((p r after m).0 ∙ ap length e, (p r after m).1 ∙ ap (sets buffer 0) e)

at_front : {before text after : List ℕ} {next : ℕ} → Put before 0 text after next → (next ≡ length text) × (after ≡ sets before 0 text)
at_front p = (let n = p.place in omega arith, p.content)

-- ---- a state

pub only-fresh : Only FreshMay (λ g. unnumbered (freshened g)) (λ g. tt)
only-fresh = only _ _ _ _ _ (λ κs a r e m. (sym (numbers-back r) ∙ ap unnumbered m, refl))

pub only_step : Only StepMay (λ g. unnumbered (stepped g.0 g.1 g.2)) (λ g. tt)
only_step = only _ _ _ _ _ (λ κs a r e m. (sym (numbers-back r) ∙ ap unnumbered m, refl))

-- Its numbers are those of the rules.
pub step-numbers : (g : State × ℕ × ℕ) (r : Stepped) → StepMay g r tt → numbered r ≡ stepped g.0 g.1 g.2
step-numbers g r m = m.met ∙ ap (λ (x : State × ℕ × ℕ). stepped x.0 x.1 x.2) m.is-given

pub only-open-streams : Only OpenStreamsMay (λ g. untold (reported g)) (λ g. tt)
only-open-streams = only _ _ _ _ _ (λ κs a r e m. (sym (told-back r) ∙ ap untold m, refl))

pub open-streams-told : (s : State) (r : Result Open Refusal) → OpenStreamsMay s r tt → told r ≡ reported s
open-streams-told s r m = m.met ∙ ap reported m.is-given

pub only-in-range : Only InRangeMay state_fits (λ g. tt)
only-in-range = only _ _ _ _ _ (λ κs a r e m. (m, refl))

pub only-independent : Only IndependentMay (λ g. independent g.0 (record { kind = g.1; node = g.2 }) (record { kind = g.3; node = g.4 })) (λ g. tt)
only-independent = only _ _ _ _ _ (λ κs a r e m. (m, refl))

-- ---- a list

pub only-host-run : Only HostRunMay (λ g. (ran g.0 g.1).returned) (λ g. (ran g.0 g.1).out)
only-host-run = only _ _ _ _ _ (λ κs a r e m. m)

pub only-transcript : (g : List ℕ × List ℕ) → Puts TranscriptMay g (transcript g.0) g.1
only-transcript = only _ _ _ _ _ (λ κs a r e m. at_front m.0)

abbrev pub wrote_of : ℕ × List ℕ × List ℕ → Result ℕ Refusal
wrote_of g = answer_in (wrote g.0 g.1 g.2).length (wrote g.0 g.1 g.2).code

pub only-write : Only WriteMay wrote_of (λ g. (wrote g.0 g.1 g.2).out)
only-write = only _ _ _ _ _ (λ κs a r e m. (answer_by r _ _ m.0 m.1.0, m.1.1))

pub only-write-call : Only WriteCallMay (λ g. return_of (wrote g.0 g.1 g.2)) (λ g. (wrote g.0 g.1 g.2).out)
only-write-call = only _ _ _ _ _ (λ κs a r e m. m)

pub only-host-write : Only HostWriteMay (λ g. return_of (wrote g.0 g.1 g.2)) (λ g. (wrote g.0 g.1 g.2).out)
only-host-write = only _ _ _ _ _ (λ κs a r e m. m)

-- The length of an output, or of a line about a refusal.
abbrev pub answered : Output → Result ℕ ℕ
answered (printing out) = Ok (length out)
answered (refusing line) = Err (length line)

-- To g, an output or a line about a refusal is put at the front of its buffer, and its length is returned; the other bytes stay.
abbrev pub PutsBoth : (List ℕ × List ℕ × List ℕ → Result ℕ ℕ → List ℕ × List ℕ → Type 0) → (List ℕ → Output) → Type 0
PutsBoth may o = Only may (λ g. answered (o g.0)) (λ g. (sets g.1 0 (out_of (o g.0)), sets g.2 0 (refusal_of (o g.0))))

abbrev pair : List ℕ → List ℕ → List ℕ × List ℕ
pair a b = (a, b)

both-fronts : (o : Output) (out line out' line' : List ℕ) (r : Result ℕ ℕ) → Prints o out line out' line' r
    → (r ≡ answered o) × (◌≡◌ {A = List ℕ × List ℕ} (out', line') (sets out 0 (out_of o), sets line 0 (refusal_of o)))
both-fronts (printing text) out line out' line' (Ok n) p = (ap Ok (at_front p.1.put).0, ap₂ pair (at_front p.1.put).1 p.2)
both-fronts (printing text) out line out' line' (Err n) p = absurd p.0
both-fronts (refusing text) out line out' line' (Ok n) p = absurd p.0
both-fronts (refusing text) out line out' line' (Err n) p = (ap Err (at_front p.1.put).0, ap₂ pair p.2 (at_front p.1.put).1)

pub only-list-from : PutsBoth ListFromMay output
only-list-from = only _ _ _ _ _ (λ κs a r e m. both-fronts _ _ _ _ _ r m)

pub only-text-of : PutsBoth TextOfMay Texts.shown
only-text-of = only _ _ _ _ _ (λ κs a r e m. both-fronts _ _ _ _ _ r m)

-- ---- two merges, and a log

pub only-compare : Only CompareMay (λ g. compared g.0 g.1) (λ g. tt)
only-compare = only _ _ _ _ _ (λ κs a r e m. (m, refl))

pub only-same-merge : Only SameMergeMay (λ g. (reply g.0 g.1 g.2).returned) (λ g. (reply g.0 g.1 g.2).places)
only-same-merge = only _ _ _ _ _ (λ κs a r e m. m)

pub only-host-same-merge : Only HostSameMergeMay (λ g. (reply g.0 g.1 g.2).returned) (λ g. (reply g.0 g.1 g.2).places)
only-host-same-merge = only _ _ _ _ _ (λ κs a r e m. m)

pub only-report : (g : List ℕ × List ℕ × List ℕ) → Puts ReportMay g (report g.0 g.1) g.2
only-report = only _ _ _ _ _ (λ κs a r e m. at_front m.0)

pub only-answer : (g : List ℕ × List ℕ) → Puts AnswerMay g (answer g.0) g.1
only-answer = only _ _ _ _ _ (λ κs a r e m. at_front m.0)

-- ---- an arbitration message

pub only-read : Only ReadMay (λ g. arbitration (reading g)) (λ g. tt)
only-read = only _ _ _ _ _ (λ κs a r e m. (m, refl))

pub only-read-into : Only ReadIntoMay (λ g. (Packed.reported g.0 g.1).returned) (λ g. (Packed.reported g.0 g.1).fields)
only-read-into = only _ _ _ _ _ (λ κs a r e m. m)

pub only-host-read-arbitration : Only HostReadArbitrationMay (λ g. (Packed.reported g.0 g.1).returned) (λ g. (Packed.reported g.0 g.1).fields)
only-host-read-arbitration = only _ _ _ _ _ (λ κs a r e m. m)

pub only-printout : (g : List ℕ × List ℕ) → Puts PrintoutMay g (printout g.0) g.1
only-printout = only _ _ _ _ _ (λ κs a r e m. at_front m.0)

-- ---- a capture

pub only-read-frame : Only ReadFrameMay frame_at (λ g. tt)
only-read-frame = only _ _ _ _ _ (λ κs a r e m. (m, refl))

pub only-looks-streamed : Only LooksStreamedMay looks_streamed (λ g. tt)
only-looks-streamed = only _ _ _ _ _ (λ κs a r e m. (m, refl))

pub only-frame-into : Only FrameIntoMay (λ g. (frame_reply g.0 g.1 g.2).returned) (λ g. (frame_reply g.0 g.1 g.2).out)
only-frame-into = only _ _ _ _ _ (λ κs a r e m. m)

pub only-host-read-frame : Only HostReadFrameMay (λ g. (frame_reply g.0 g.1 g.2).returned) (λ g. (frame_reply g.0 g.1 g.2).out)
only-host-read-frame = only _ _ _ _ _ (λ κs a r e m. m)

pub only-shown : (g : ℕ × ℕ × Result Frame Frame_refusal.Refusal × List ℕ) → Puts ShownMay g (frame_text g.0 g.1 g.2) g.3
only-shown = only _ _ _ _ _ (λ κs a r e m. at_front m.0)

pub only-ended : (g : ℕ × List ℕ) → Puts EndedMay g (end_text g.0) g.1
only-ended = only _ _ _ _ _ (λ κs a r e m. at_front m.0)
