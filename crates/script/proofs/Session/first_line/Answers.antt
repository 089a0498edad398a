-- `Session::first_line`: by the command.
use mathlib.Core.Logic.{inl, inr}
use Rattle.script.specs.Answering.{first_line}
use Rattle.script.proofs.Session.first_line.Goals as goal

pub returns-in_default : goal.returns-in_default
unfolding first_line
returns-in_default c = λ handles sizes. rw c.in_default.is (c.bad_line.ensures handles sizes)

pub returns-in-Configure : goal.returns-in-Configure
unfolding first_line
returns-in-Configure c = λ handles sizes. rw (c.in-Some.is, c.in-Configure.is) (c.start_line.ensures handles sizes)

pub returns-in-Arrival : goal.returns-in-Arrival
unfolding first_line
returns-in-Arrival c = λ handles sizes.
    let bad = c.bad_line-in-Arrival.ensures handles sizes in
    rw c.in-Some.is (elim c.in-Arrival.is [ inl w ↦ rw w.5 bad | inr v ↦ elim v [ inl w ↦ rw w.1 bad | inr w ↦ rw w.1 bad ] ])
