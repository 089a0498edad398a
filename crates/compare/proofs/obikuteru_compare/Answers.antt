-- `obikuteru_compare`: the library's `compare`, as a code and four words.
use mathlib.Core.Path.{refl, ap, sym, ◌∙◌}
use mathlib.Core.List.{[], ◌∷◌}
use Prim.Native.Nat.{ℕ, ◌*◌}
use native.Mathlib.Omega.{arith}
use Rattle.compare.specs.Values.{comparison_of}
use Rattle.compare.proofs.Fits.{first_fits, second_fits}
use Rattle.compare.proofs.Compares.{compares, longer-place, refused-number}
use Rattle.compare.proofs.obikuteru_compare.Goals as goal

pub last_from-requires : goal.last_from-requires
last_from-requires c = let a = c.args in second_fits a.first.now a.second.now (sym c.compare-found.ensures ∙ ap comparison_of c.in-FirstEnds.is)

pub overflow_mul-words : goal.overflow_mul-words
overflow_mul-words c =
    let a = c.args in
    let h = second_fits a.first.now a.second.now (sym c.compare-found.ensures ∙ ap comparison_of c.in-FirstEnds.is) in omega (arith, h)

pub last_from-requires-in-SecondEnds : goal.last_from-requires-in-SecondEnds
last_from-requires-in-SecondEnds c = let a = c.args in first_fits a.first.now a.second.now (sym c.compare-found.ensures ∙ ap comparison_of c.in-SecondEnds.is)

pub overflow_mul-words-in-SecondEnds : goal.overflow_mul-words-in-SecondEnds
overflow_mul-words-in-SecondEnds c =
    let a = c.args in
    let h = first_fits a.first.now a.second.now (sym c.compare-found.ensures ∙ ap comparison_of c.in-SecondEnds.is) in omega (arith, h)

pub returns-in-RefusedFirst : goal.returns-in-RefusedFirst
returns-in-RefusedFirst c = let a = c.args in rw c.code.ensures (refused-number a.first.now a.second.now c.compare-found.ensures c.in-RefusedFirst.is refl refl)

pub returns-in-RefusedSecond : goal.returns-in-RefusedSecond
returns-in-RefusedSecond c = let a = c.args in rw c.code-in-RefusedSecond.ensures (refused-number a.first.now a.second.now c.compare-found.ensures c.in-RefusedSecond.is refl refl)

pub returns-in-SettingsDiffer : goal.returns-in-SettingsDiffer
returns-in-SettingsDiffer c = let a = c.args in compares a.first.now a.second.now c.compare-found.ensures c.in-SettingsDiffer.is

pub returns-in-NotesDiffer : goal.returns-in-NotesDiffer
returns-in-NotesDiffer c = let a = c.args in compares a.first.now a.second.now c.compare-found.ensures c.in-NotesDiffer.is

pub returns-in-RecordDiffers : goal.returns-in-RecordDiffers
returns-in-RecordDiffers c = let a = c.args in compares a.first.now a.second.now c.compare-found.ensures c.in-RecordDiffers.is

pub returns-in-FirstEnds : goal.returns-in-FirstEnds
returns-in-FirstEnds c =
    let a = c.args in
    longer-place a.first.now a.second.now c.compare-found.ensures c.in-FirstEnds.is
    (ap (λ (p : ℕ). 2 ∷ c.in-FirstEnds.shared ∷ p ∷ 40 * c.in-FirstEnds.left ∷ []) c.last_from.ensures) refl

pub returns-in-SecondEnds : goal.returns-in-SecondEnds
returns-in-SecondEnds c =
    let a = c.args in
    longer-place a.first.now a.second.now c.compare-found.ensures c.in-SecondEnds.is
    (ap (λ (p : ℕ). 1 ∷ c.in-SecondEnds.shared ∷ p ∷ 40 * c.in-SecondEnds.left ∷ []) c.last_from-in-SecondEnds.ensures) refl

pub returns-in-Equal : goal.returns-in-Equal
returns-in-Equal c = let a = c.args in compares a.first.now a.second.now c.compare-found.ensures c.in-Equal.is
