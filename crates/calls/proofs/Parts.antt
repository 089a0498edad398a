-- A part answers as if it were alone: one induction over the calls of the whole.
use mathlib.Core.Path.{◌≡◌, refl}
use mathlib.Core.List.{List, [], ◌∷◌}
use Rattle.calls.specs.Kind.{Kind}
use Rattle.calls.specs.Parts.{AsAlone, Does, Part, Parts, Whose, another, own}

module _ (whole alone : Kind) (p : Part whole alone) (Sound : whole.State → Type 0)
    (sound : (s : whole.State) (c : whole.Call) → Sound s → Sound (whole.next s c))
    (does : (s : whole.State) (c : whole.Call) → Sound s → Does p s c (p.whose c)) where
  as-alone : (s : whole.State) (calls : List whole.Call) → Sound s → AsAlone p s calls
  as-alone s [] h = record { answers = refl; state = refl }
  as-alone s (c ∷ calls) h = go (p.whose c) refl (does s c h) (as-alone (whole.next s c) calls (sound s c h))
    where
      go : (w : Whose alone.Call) → p.whose c ≡ w → Does p s c w → AsAlone p (whole.next s c) calls → AsAlone p s (c ∷ calls)
      go (own d) e done rest = record { answers = rw (e, done.1, rest.answers, done.0); state = rw (e, rest.state, done.0) }
      go another e done rest = record { answers = rw (e, rest.answers, done); state = rw (e, rest.state, done) }

pub parts : Parts
parts whole alone p Sound sound does s calls h = as-alone whole alone p Sound sound does s calls h
