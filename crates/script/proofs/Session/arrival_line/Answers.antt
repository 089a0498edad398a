-- `Session::arrival_line`: the queue is lent the first `slots` of each table, and the rest stays.
use mathlib.Core.Path.{◌≡◌, ap, ◌∙◌}
use Rattle.std.proofs.Common.{rules}
use Rattle.refusals.specs.Answer.{arrival_answer}
use Rattle.script.specs.Answering.{later_line}
use Rattle.script_answers.specs.Output.{answer_of, word_of}
use Rattle.script.proofs.Lent.{joined-up, lent-drop, lent-take}
use Rattle.script.proofs.Replies.{said}
use Rattle.script.proofs.Session.arrival_line.Goals as goal

pub returns : goal.returns
unfolding later_line
returns c =
    let a = c.args in
    let slots = a.self.now.state.settings.slots in
    let th = lent-take c.min-n.result slots a.handles.now c.min-n.ensures in
    let tz = lent-take c.min-m.result slots a.sizes.now c.min-m.ensures in
    let value = rw (th, tz) at c.arrival-decided.ensures.value in
    let tables = rw (th, tz) at c.arrival-decided.ensures.tables in
    let answer : answer_of c.map.result ≡ arrival_answer c.arrival-decided.result = search rules in
    record {
      said = said a.self.now _ _ _ _ _ _ _ _ value.1 (ap word_of (answer ∙ value.0)) c.reply.ensures.session c.reply.ensures.text;
      handles = joined-up tables.0 (lent-drop c.min-n.result slots a.handles.now c.min-n.ensures);
      sizes = joined-up tables.1 (lent-drop c.min-m.result slots a.sizes.now c.min-m.ensures);
    }
