-- What a script writes is its output at the end.
use mathlib.Core.Path.{◌≡◌, refl, ap, ◌∙◌}
use Rattle.script.specs.Script.{ScriptRun, script}
use Rattle.script_guarantees.specs.Asked.{Asked, asked, nothing, started, unstarted}
use Rattle.script_guarantees.specs.ScriptEnd.{end_of}
use Rattle.script_guarantees.specs.ScriptText.{ScriptText, text_of}
use Rattle.script_guarantees.proofs.ScriptEnd.{script-end}

end-text : (a : Asked) → (end_of a).output ≡ text_of a
end-text nothing = refl
end-text unstarted = refl
end-text (started target buffer slots body) = refl

pub script-text : ScriptText
unfolding script
script-text input = ap (λ (r : ScriptRun). r.output) (script-end input) ∙ end-text (asked input)
