-- A turn of `feed`: the bytes of a line, and then its newline.
use mathlib.Core.Path.{◌≡◌, refl, sym, ap, ◌∙◌}
use mathlib.Core.Bool.{Bool, true, false, cond}
use mathlib.Core.List.{List, [], ◌∷◌, ◌++◌, foldl, foldl-append}
use Prim.Native.Nat.{ℕ, suc, ◌+◌, ◌≤◌, ◌<◌}
use native.Mathlib.Nat.{le_of_suc-le-suc}
use native.Mathlib.Numerals.{add-one}
use native.Mathlib.Omega.{arith}
use borrow.Author.Tests.{eqb-true}
use lib.Dec.{eqb}
use lib.ListN.{drop, get_or, length, length-drop, take}
use lib.Seq.{get_or-drop, take-add, take-suc}
use Rattle.lines.specs.Reader.{begun, pushed}
use Rattle.std.proofs.Common.{Option}
use Rattle.decimal.specs.declared.Output.{Output}
use Rattle.script_command.specs.Reader.{finished}
use Rattle.lines.specs.Scan.{line_end, read_on}
use Rattle.script_command.specs.declared.Command.{Command}
use Rattle.lines.specs.declared.Reader.{Reader}
use Rattle.lines.specs.declared.Scanned.{Scanned}
use Rattle.script.specs.Answering.{outcome}
use Rattle.script.specs.Done.{Did}
use Rattle.script.specs.Feeding.{Machine, byte_fed, fed, line_fed, machine}
use Rattle.script.specs.Script.{ScriptRun, answer_line}
use Rattle.script.specs.Turn.{Follows}
use Rattle.script.specs.declared.Fed.{Fed}
use Rattle.script.specs.declared.Session.{Session}

pub fed-append : (m : Machine) (a b : List ℕ) → fed m (a ++ b) ≡ fed (fed m a) b
unfolding fed
fed-append m a b = foldl-append byte_fed m a b

-- the same run with another reader
abbrev pub reading : Machine → Reader → Machine
reading m r = record { run = m.run; reader = r }

-- ── a line's bytes ──

-- where a line ends before the bytes do, a newline stands
pub newline-there : (bytes : List ℕ) → line_end bytes < length bytes → get_or bytes (line_end bytes) 0 ≡ 10
unfolding line_end
newline-there [] h = absurd (omega arith)
newline-there (b ∷ bytes) h = go (eqb b 10) refl (newline-there bytes) h
  where
    go : (t : Bool) → eqb b 10 ≡ t → (line_end bytes < length bytes → get_or bytes (line_end bytes) 0 ≡ 10) → cond t 0 (suc (line_end bytes)) < suc (length bytes) → get_or (b ∷ bytes) (cond t 0 (suc (line_end bytes))) 0 ≡ 10
    go true e rest k = eqb-true b 10 e
    go false e rest k = rest (le_of_suc-le-suc k)

pub byte-read : (m : Machine) (b : ℕ) → eqb b 10 ≡ false → byte_fed m b ≡ reading m (pushed m.reader b)
byte-read m b e = rw e

pub line_read : (m : Machine) (bytes : List ℕ) → fed m (take (line_end bytes) bytes) ≡ reading m (read_on m.reader bytes)
unfolding fed line_end read_on
line_read m [] = refl
line_read m (b ∷ bytes) = go (eqb b 10) refl (line_read (reading m (pushed m.reader b)) bytes)
  where
    go : (t : Bool) → eqb b 10 ≡ t → foldl byte_fed (reading m (pushed m.reader b)) (take (line_end bytes) bytes) ≡ reading m (read_on (pushed m.reader b) bytes) → foldl byte_fed m (take (cond t 0 (suc (line_end bytes))) (b ∷ bytes)) ≡ reading m (cond t m.reader (read_on (pushed m.reader b) bytes))
    go true e rest = refl
    go false e rest = ap (λ (n : Machine). foldl byte_fed n (take (line_end bytes) bytes)) (byte-read m b e) ∙ rest

-- ── from the bytes taken to the end of a line ──

module _ (m₀ m : Machine) (input : List ℕ) (taken : ℕ) (h : taken ≤ length input) (follows : fed m₀ (take taken input) ≡ m) where
  pub to_the_end : fed m₀ (take (taken + line_end (drop taken input)) input) ≡ reading m (read_on m.reader (drop taken input))
  to_the_end = rw (take-add taken (line_end (drop taken input)) input, fed-append, follows) (line_read m (drop taken input))

  pub past-the-newline : taken + line_end (drop taken input) < length input → fed m₀ (take (taken + line_end (drop taken input) + 1) input) ≡ line_fed (reading m (read_on m.reader (drop taken input)))
  past-the-newline k =
      let at = taken + line_end (drop taken input) in
      let below : line_end (drop taken input) < length (drop taken input) = simp length-drop (omega arith) in
      let ten = newline-there (drop taken input) below in
      let there : get_or input at 0 ≡ 10 = sym (get_or-drop taken input (line_end (drop taken input)) 0) ∙ ten in
      rw (add-one at, take-suc input at 0 k, fed-append, to_the_end, there) newline
    where
      newline : fed (reading m (read_on m.reader (drop taken input))) (10 ∷ []) ≡ line_fed (reading m (read_on m.reader (drop taken input)))
      newline = unfold fed in refl

-- ── the line answered ──

pub answered-is : (s t : Session) (handles sizes : List ℕ) (command : Option Command) (h z : List ℕ) (x y : Output) → Did (outcome s handles sizes command) t h z x y → answer_line (record { session = s; handles = handles; sizes = sizes; output = take x.end x.bytes.now }) command ≡ record { session = t; handles = h; sizes = z; output = take y.end y.bytes.now }
unfolding answer_line
answered-is s t handles sizes command h z x y d =
    λ i. record { session = sym d.said.session i; handles = sym d.handles i; sizes = sym d.sizes i; output = sym d.said.text.bytes i }

-- ── a turn ──

module _ (m : Machine) (input : List ℕ) (g : Fed) (handles sizes output : List ℕ) (within : g.taken < length input) (follows : Follows m input g handles sizes output) (s : Scanned) (at-is : s.at ≡ g.taken + line_end (drop g.taken input)) (reader-is : s.reader ≡ read_on g.runner.reader (drop g.taken input)) where
  -- the input ends before a newline
  pub turn_end : fed m (take s.at input) ≡ machine (record { session = g.runner.session; reader = s.reader }) handles sizes (take g.written output)
  turn_end =
      let n = machine g.runner handles sizes (take g.written output) in
      rw (at-is, reader-is) (to_the_end m n input g.taken (omega arith) follows)

  -- the line is answered
  pub turn-line : s.at < length input → (command : Option Command) → command ≡ finished s.reader → (t : Session) (h z : List ℕ) (x y : Output) → x.end ≡ g.written → x.bytes.now ≡ output → Did (outcome g.runner.session handles sizes command) t h z x y → fed m (take (s.at + 1) input) ≡ machine (record { session = t; reader = begun }) h z (take y.end y.bytes.now)
  turn-line k command c t h z x y end-is bytes-are d =
      let n = machine g.runner handles sizes (take g.written output) in
      let k' : g.taken + line_end (drop g.taken input) < length input = omega arith in
      let line : fed m (take (s.at + 1) input) ≡ line_fed (reading n s.reader) = rw (at-is, reader-is) (past-the-newline m n input g.taken (omega arith) follows k') in
      let done = rw (c, end-is, bytes-are) at (answered-is g.runner.session t handles sizes command h z x y d) in
      line ∙ ap (λ (run : ScriptRun). reading (record { run = run; reader = begun }) begun) done
