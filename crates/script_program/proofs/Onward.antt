-- Input fed behind input that was fed.
use mathlib.Core.Path.{◌≡◌, refl, sym, ap, ◌∙◌}
use mathlib.Core.Bool.{Bool, true, false, cond}
use mathlib.Core.List.{List, [], ◌∷◌, ◌++◌, foldl, foldl-append}
use Prim.Native.Nat.{ℕ, ◌+◌}
use lib.Dec.{eqb}
use lib.ListN.{drop, take}
use lib.Seq.{take-add}
use Rattle.lines.specs.Reader.{pushed}
use Rattle.script_program.specs.Feeds.{Feeds, FeedsSome}
use Rattle.script.specs.Feeding.{Machine, byte_fed, fed, line_fed, machine}
use Rattle.script.specs.Pieces.{emptied}
use Rattle.script.specs.Script.{answer_line}
use Rattle.script.specs.declared.Runner.{Runner}

-- what is written does not matter to what follows
byte-emptied : (m : Machine) (b : ℕ) → emptied (byte_fed m b) ≡ emptied (byte_fed (emptied m) b)
byte-emptied m b = go (eqb b 10)
  where
    line : emptied (line_fed m) ≡ emptied (line_fed (emptied m))
    line = unfold answer_line in refl

    go : (t : Bool) → emptied (cond t (line_fed m) (record { run = m.run; reader = pushed m.reader b })) ≡ emptied (cond t (line_fed (emptied m)) (record { run = (emptied m).run; reader = pushed m.reader b }))
    go true = line
    go false = refl

fed-emptied : (bytes : List ℕ) (m : Machine) → emptied (fed m bytes) ≡ emptied (fed (emptied m) bytes)
unfolding fed
fed-emptied [] m = refl
fed-emptied (b ∷ bytes) m =
    fed-emptied bytes (byte_fed m b)
    ∙ (ap (λ (n : Machine). emptied (foldl byte_fed n bytes)) (byte-emptied m b)
    ∙ sym (fed-emptied bytes (byte_fed (emptied m) b)))

pub feeds-none : (r : Runner) (handles sizes input : List ℕ) → Feeds r handles sizes input 0 r handles sizes
unfolding fed
feeds-none r handles sizes input = refl

pub feeds-then : (r s t : Runner) (handles sizes h z h' z' input : List ℕ) (at taken : ℕ) → Feeds r handles sizes input at s h z → Feeds s h z (drop at input) taken t h' z' → Feeds r handles sizes input (at + taken) t h' z'
feeds-then r s t handles sizes h z h' z' input at taken p q =
    let m = machine r handles sizes [] in
    let more = take taken (drop at input) in
    let parts : fed m (take (at + taken) input) ≡ fed (fed m (take at input)) more = rw (take-add at taken input) (whole m (take at input) more) in
    ap emptied parts
    ∙ (fed-emptied more (fed m (take at input))
    ∙ (ap (λ (n : Machine). emptied (fed n more)) p ∙ q))
  where
    whole : (m : Machine) (a b : List ℕ) → fed m (a ++ b) ≡ fed (fed m a) b
    whole m a b = unfold fed in foldl-append byte_fed m a b

pub some-then : (r s t : Runner) (handles sizes h z h' z' input : List ℕ) (at : ℕ) → Feeds r handles sizes input at s h z → FeedsSome s h z (drop at input) t h' z' → FeedsSome r handles sizes input t h' z'
some-then r s t handles sizes h z h' z' input at p q =
    record { taken = at + q.taken; feeds = feeds-then r s t handles sizes h z h' z' input at q.taken p q.feeds }
