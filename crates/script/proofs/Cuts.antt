-- A script fed byte by byte is the script read line by line; and so it is in pieces.
use mathlib.Core.Path.{◌≡◌, refl, sym, ap, ◌∙◌}
use mathlib.Core.Bool.{Bool, true, false, cond, false≢true}
use mathlib.Core.List.{List, [], ◌∷◌, ◌++◌, append_assoc, append-nil, foldl, foldl-append, map}
use Prim.Native.Nat.{ℕ}
use Rattle.std.proofs.Common.{Option}
use lib.Dec.{eqb}
use Rattle.script_command.specs.Line.{read_line}
use Rattle.lines.specs.Reader.{begun, is_empty, pushed}
use Rattle.script_command.specs.Reader.{finished}
use Rattle.script_command.specs.declared.Command.{Command}
use Rattle.lines.proofs.Emptiness.{not-empty}
use Rattle.script_command.proofs.Reading.{reads_lines}
use Rattle.script.specs.Feeding.{Machine, byte_fed, end_fed, fed, has_ended, line_fed}
use Rattle.script.specs.Lines.{joined, lines_of}
use Rattle.script.specs.Pieces.{NothingAfterABadLine, PiecesWriteTheScript, emptied, joined_up, start, written}
use Rattle.script.specs.Script.{ScriptRun, answer_line, script, start_run}
use Rattle.script.specs.declared.Stage.{Stage}
use Rattle.script.specs.declared.Stage.TheVariants.{First, Running, Ended}
use Rattle.script.proofs.Stages.{at_ended}
use Rattle.script.proofs.Turns.{fed-append}

-- ── bytes and lines ──

-- a line that has begun, with nothing behind it
abbrev last_line : List ℕ → List (List ℕ)
last_line [] = []
last_line (b ∷ line) = (b ∷ line) ∷ []

-- the lines, the first of which has begun so
abbrev after : List ℕ → List (List ℕ) → List (List ℕ)
after begins [] = last_line begins
after begins (line ∷ lines) = (begins ++ line) ∷ lines

after_nothing : (lines : List (List ℕ)) → after [] lines ≡ lines
after_nothing [] = refl
after_nothing (line ∷ lines) = refl

last_more : (line : List ℕ) (b : ℕ) → last_line (line ++ (b ∷ [])) ≡ (line ++ (b ∷ [])) ∷ []
last_more [] b = refl
last_more (x ∷ line) b = refl

after_more : (begins : List ℕ) (b : ℕ) (lines : List (List ℕ)) → after (begins ++ (b ∷ [])) lines ≡ after begins (joined false b lines)
after_more begins b [] = last_more begins b
after_more begins b (line ∷ lines) = rw append_assoc

abbrev at : ScriptRun → List ℕ → Machine
at r begins = record { run = r; reader = foldl pushed begun begins }

-- a line that has begun is answered at the end of the input
end-answered : (begins : List ℕ) (r : ScriptRun) → (end_fed (at r begins)).run ≡ foldl answer_line r (map read_line (last_line begins))
unfolding end_fed
end-answered [] r = refl
end-answered (b ∷ begins) r = rw (not-empty b begins) (ap (answer_line r) (reads_lines (b ∷ begins)))

lines-fed : (rest begins : List ℕ) (r : ScriptRun) → (end_fed (fed (at r begins) rest)).run ≡ foldl answer_line r (map read_line (after begins (lines_of rest)))
unfolding fed lines_of
lines-fed [] begins r = end-answered begins r
lines-fed (b ∷ rest) begins r = go (eqb b 10) refl (lines-fed rest)
  where
    go : (t : Bool) → eqb b 10 ≡ t → ((begins : List ℕ) (r : ScriptRun) → (end_fed (fed (at r begins) rest)).run ≡ foldl answer_line r (map read_line (after begins (lines_of rest)))) → (end_fed (fed (byte_fed (at r begins) b) rest)).run ≡ foldl answer_line r (map read_line (after begins (joined (eqb b 10) b (lines_of rest))))
    go true e ih =
        rw (e, append-nil, ← (reads_lines begins))
        (ih [] (answer_line r (finished (foldl pushed begun begins))) ∙ rw after_nothing)
    go false e ih =
        let same : foldl pushed begun (begins ++ (b ∷ [])) ≡ pushed (foldl pushed begun begins) b = foldl-append pushed begun begins (b ∷ []) in
        let step = ih (begins ++ (b ∷ [])) r in
        rw e (rw (same, after_more) at step)

whole : (input : List ℕ) → (end_fed (fed start input)).run.output ≡ script input
unfolding script
whole input = ap (λ (r : ScriptRun). r.output) (rw after_nothing at (lines-fed input [] start_run))

-- ── pieces ──

-- the same with this output in front
abbrev behind : List ℕ → Machine → Machine
behind o m =
    record { run = record { session = m.run.session; handles = m.run.handles; sizes = m.run.sizes; output = o ++ m.run.output }; reader = m.reader }

line-behind : (o : List ℕ) (m : Machine) → line_fed (behind o m) ≡ behind o (line_fed m)
unfolding answer_line
line-behind o m = rw append_assoc

byte-behind : (o : List ℕ) (m : Machine) (b : ℕ) → byte_fed (behind o m) b ≡ behind o (byte_fed m b)
byte-behind o m b = go (eqb b 10)
  where
    go : (t : Bool) → cond t (line_fed (behind o m)) (record { run = (behind o m).run; reader = pushed m.reader b }) ≡ behind o (cond t (line_fed m) (record { run = m.run; reader = pushed m.reader b }))
    go true = line-behind o m
    go false = refl

fed-behind : (o : List ℕ) (m : Machine) (bytes : List ℕ) → fed (behind o m) bytes ≡ behind o (fed m bytes)
unfolding fed
fed-behind o m [] = refl
fed-behind o m (b ∷ bytes) = ap (λ (n : Machine). foldl byte_fed n bytes) (byte-behind o m b) ∙ fed-behind o (byte_fed m b) bytes

end-behind : (o : List ℕ) (m : Machine) → end_fed (behind o m) ≡ behind o (end_fed m)
unfolding end_fed
end-behind o m = go (is_empty m.reader.phase)
  where
    go : (t : Bool) → cond t (behind o m) (line_fed (behind o m)) ≡ behind o (cond t m (line_fed m))
    go true = refl
    go false = line-behind o m

written_is : (pieces : List (List ℕ)) (m : Machine) → written m pieces ≡ (end_fed (fed m (joined_up pieces))).run.output
written_is [] m = unfold fed in refl
written_is (piece ∷ pieces) m =
    let n = fed m piece in
    let rest = joined_up pieces in
    let full : behind n.run.output (emptied n) ≡ n = rw append-nil in
    let parts : end_fed (fed n rest) ≡ behind n.run.output (end_fed (fed (emptied n) rest)) = ap (λ (k : Machine). end_fed (fed k rest)) (sym full) ∙ (ap end_fed (fed-behind n.run.output (emptied n) rest) ∙ end-behind n.run.output (fed (emptied n) rest)) in
    rw (fed-append, parts, written_is pieces (emptied n))

pub pieces-write-the-script : PiecesWriteTheScript
pieces-write-the-script pieces = written_is pieces start ∙ whole (joined_up pieces)

-- ── after a bad line ──

ended : (stage : Stage) → has_ended stage ≡ true → stage ≡ Ended
ended First e = absurd (false≢true e)
ended Running e = absurd (false≢true e)
ended Ended e = refl

line_stays : (r : ScriptRun) (command : Option Command) → r.session.stage ≡ Ended → answer_line r command ≡ r
unfolding answer_line
line_stays r command e = rw (at_ended r.session r.handles r.sizes command e, append-nil)

fed-stays : (bytes : List ℕ) (m : Machine) → m.run.session.stage ≡ Ended → (fed m bytes).run ≡ m.run
unfolding fed
fed-stays [] m e = refl
fed-stays (b ∷ bytes) m e = go (eqb b 10) refl (λ n. fed-stays bytes n)
  where
    go : (t : Bool) → eqb b 10 ≡ t → ((n : Machine) → n.run.session.stage ≡ Ended → (fed n bytes).run ≡ n.run) → (fed (byte_fed m b) bytes).run ≡ m.run
    go true t ih =
        let same = line_stays m.run (finished m.reader) e in
        rw t (ih (line_fed m) (rw same e) ∙ same)
    go false t ih = rw t (ih (record { run = m.run; reader = pushed m.reader b }) e)

end_stays : (m : Machine) → m.run.session.stage ≡ Ended → (end_fed m).run ≡ m.run
unfolding end_fed
end_stays m e = go (is_empty m.reader.phase)
  where
    go : (t : Bool) → (cond t m (line_fed m)).run ≡ m.run
    go true = refl
    go false = line_stays m.run (finished m.reader) e

pub nothing-after-a-bad-line : NothingAfterABadLine
nothing-after-a-bad-line taken rest h =
    let m = fed start taken in
    let e = ended m.run.session.stage h in
    let more = fed-stays rest m e in
    let last = end_stays (fed m rest) (rw more e) in
    let all : (end_fed (fed start (taken ++ rest))).run ≡ m.run = rw fed-append (last ∙ more) in
    ap (λ (r : ScriptRun). r.output) (sym all) ∙ whole (taken ++ rest)
