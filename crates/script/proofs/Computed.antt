-- The cases, computed.
use mathlib.Core.Path.{refl}
use Rattle.decimal.specs.Digits.{digits_of, spelled}
use Rattle.script_command.specs.Forms.{command_of}
use Rattle.script_command.specs.Line.{read_line}
use Rattle.lines.specs.Words.{words_of}
use Rattle.pie.specs.DepartureRate.{average_of, rate_after, sample_of}
use Rattle.pie.specs.DropDecision.{accumulated_after, drawn, drop_decision}
use Rattle.pie.specs.Update.{capped, decayed, delay_of, divisor_of, error_of, limited, lookup, next_allowance, next_prob, step_of, updated}
use Rattle.pie.specs.Verdicts.{raised}
use Rattle.ring.specs.Activity.{begun}
use Rattle.ring.specs.Arrival.{arrival, arrival_refusal, arrived_state, verdict_of}
use Rattle.ring.specs.Departure.{departed_state, departure, departure_refusal}
use Rattle.ring.specs.Fresh.{fresh}
use Rattle.refusals.specs.Tests.{head_refused}
use Rattle.ring.specs.State.{well_formed}
use Rattle.ring.specs.Tick.{tick, tick_refusal, ticked_state}
use Rattle.script.specs.Answering.{first_line, later_line, outcome}
use Rattle.script.specs.Example.{CasesHold}
use Rattle.script.specs.Lines.{lines_of}
use Rattle.script.specs.Script.{answer_line, script}

pub cases-hold : CasesHold
unfolding digits_of spelled command_of read_line words_of average_of rate_after sample_of drawn drop_decision accumulated_after capped decayed delay_of divisor_of error_of limited lookup next_allowance next_prob step_of updated raised begun arrival arrival_refusal arrived_state verdict_of departed_state departure departure_refusal fresh head_refused well_formed tick tick_refusal ticked_state first_line later_line outcome lines_of answer_line script
cases-hold = (refl, (refl, (refl, (refl, (refl, (refl, (refl, (refl, (refl, (refl, (refl, (refl, (refl, (refl, (refl, (refl, (refl, (refl, (refl, (refl, (refl, (refl, (refl, (refl, (refl, (refl, (refl, (refl, (refl, (refl, (refl, (refl, (refl, (refl, tt))))))))))))))))))))))))))))))))))
