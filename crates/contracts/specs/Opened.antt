-- Opens the definitions of a subject at once, for facts that are computed: name one of these on the `unfolding` line.
use Rattle.std.specs.Prelude.{ℕ}
use Rattle.rules_laws.specs.Computed.{computed}
use Rattle.rules_exchange.specs.Independent.{listed, exists, independent}
use Rattle.step_state.specs.Hold.{hold_desk, hold_held, hold_board, hold_core, hold_history, hold, pack_controllers, pack_streams, pack_claims, pack_core, pack_history, represent}
use Rattle.step_state.specs.Tidy.{no_message, no_status, blank_mastership, blank_request, blank_response, tidy_mastership, tidy_request, tidy_response, tidy_places, tidy_controller, tidy_stream, blank_controller, blank_stream, tidy_core, blank_write, tidy_history, state_fits}
use Rattle.run_lists.specs.EventList.{number_at, refusal, history_bytes}
use Rattle.run.specs.Ran.{run_refusal, ran}
use Rattle.any_text.specs.Decimal.{digits, decimal}
use Rattle.any_text.specs.Line.{spaced, line, lines}
use Rattle.any_text.specs.Lines.{record_line, writes_line, write_line}
use Rattle.run_lines.specs.RunText.{run_text}
use Rattle.run_text.specs.Transcript.{transcript}
use Rattle.merge_compare.specs.Compare.{compare}
use Rattle.merge_compare.specs.Compared.{compared}
use Rattle.merge_call.specs.Reply.{reply}
use Rattle.run_difference.specs.Difference.{common, difference}
use Rattle.merge_text.specs.Report.{verdict_line, parting_line, runs_text, report}
use Rattle.merge_verdict.specs.Clocks.{fixed}
use Rattle.any_words.specs.Text.{pieces, number_of}
use Rattle.log_read.specs.Line.{line_of}
use Rattle.log_read.specs.Log.{part, read_text}
use Rattle.log_doubts.specs.Doubts.{in_doubt, pairs}
use Rattle.log_text.specs.Answer.{outcome, shown, doubts_text, answer}
use Rattle.wire_fields.specs.Numbers.{number_in}
use Rattle.wire_fields.specs.Fields as Fields
use Rattle.wire_fields.specs.Messages.{fields_in}
use Rattle.wire_arbitration.specs.Update.{reading}
use Rattle.wire_arbitration.specs.Arbitration.{signed}
use Rattle.wire_bytes.specs.Bytes.{little, reported}
use Rattle.wire_text.specs.Printout.{role_lines, election_lines, status_lines, field_lines, printout}

unfoldable pub states : ℕ
unfolding computed hold_desk hold_held hold_board hold_core hold_history hold pack_controllers pack_streams pack_claims pack_core pack_history represent no_message no_status blank_mastership blank_request blank_response tidy_mastership tidy_request tidy_response tidy_places tidy_controller tidy_stream blank_controller blank_stream tidy_core blank_write tidy_history state_fits
states = 0

unfoldable pub runs : ℕ
unfolding computed number_at refusal history_bytes run_refusal ran
runs = 0

unfoldable pub prints : ℕ
unfolding runs digits decimal record_line writes_line write_line lines run_text transcript
prints = 0

unfoldable pub compares : ℕ
unfolding computed number_at refusal listed exists independent compare compared reply
compares = 0

unfoldable pub reports : ℕ
unfolding compares common difference verdict_line parting_line runs_text report
reports = 0

unfoldable pub logs : ℕ
unfolding reports digits decimal spaced line fixed pieces number_of line_of part read_text in_doubt pairs outcome shown doubts_text answer
logs = 0

unfoldable pub messages : ℕ
unfolding number_in Fields.part Fields.content Fields.tagged Fields.field fields_in reading signed little reported digits decimal role_lines election_lines status_lines field_lines printout
messages = 0
