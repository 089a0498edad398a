-- `draw`: rules 7 and 8, then the first of the others that holds.
use mathlib.Core.Path.{◌≡◌, ap, sym, ◌∙◌}
use mathlib.Core.Bool.{false}
use Prim.Native.Nat.{ℕ, ◌+◌}
use lib.Dec.{ltb}
use lib.ListN.{get_or}
use Rattle.units.specs.declared.Prob.{Prob}
use Rattle.docsis_pie.specs.Constants.{low}
use Rattle.docsis_pie.specs.DropDecision.{scaled_of}
use Rattle.docsis_pie.proofs.Ranges.{scaled-le}
use Rattle.modem_steps.proofs.Decisions.{early-draws, light-draws, low-draws, passed-draws, small-draws}
use Rattle.modem_steps.proofs.arriving.draw.Goals as goal

pub sum-total-requires : goal.sum-total-requires
sum-total-requires c =
    let part : c.scaled-part.result.0 ≡ scaled_of (get_or c.args.w.now 7 0) c.args.size = ap (λ (p : Prob). p.0) c.scaled-part.ensures in
    (c.requires.w_bound.1, rw part (scaled-le (get_or c.args.w.now 7 0) c.args.size))

pub returns-then-light : goal.returns-then-light
returns-then-light c =
    let part : c.scaled-part.result.0 ≡ scaled_of (get_or c.args.w.now 7 0) c.args.size = ap (λ (p : Prob). p.0) c.scaled-part.ensures in
    let total : c.sum-total.result.0 ≡ get_or c.args.w.now 8 0 + scaled_of (get_or c.args.w.now 7 0) c.args.size =
    ap (λ (p : Prob). p.0) c.sum-total.ensures ∙ ap (λ (n : ℕ). get_or c.args.w.now 8 0 + n) part in
    rw (ap (λ (p : Prob). p.0) c.limit_sum.ensures, total) (light-draws c.args.w.now c.requires.w_len.0 c.args.bytes c.args.size (get_or c.args.calls.now (c.args.at + 4) 0) (sym c.lightly_loaded-light.ensures ∙ c.if-light.true))

pub returns-then-low : goal.returns-then-low
returns-then-low c =
    let part : c.scaled-part.result.0 ≡ scaled_of (get_or c.args.w.now 7 0) c.args.size = ap (λ (p : Prob). p.0) c.scaled-part.ensures in
    let total : c.sum-total.result.0 ≡ get_or c.args.w.now 8 0 + scaled_of (get_or c.args.w.now 7 0) c.args.size =
    ap (λ (p : Prob). p.0) c.sum-total.ensures ∙ ap (λ (n : ℕ). get_or c.args.w.now 8 0 + n) part in
    rw total (low-draws c.args.w.now c.requires.w_len.0 c.args.bytes c.args.size (get_or c.args.calls.now (c.args.at + 4) 0) (rw total at (sym c.is_low-low.ensures ∙ c.if-low.true)))

pub returns-then-little : goal.returns-then-little
returns-then-little c =
    let part : c.scaled-part.result.0 ≡ scaled_of (get_or c.args.w.now 7 0) c.args.size = ap (λ (p : Prob). p.0) c.scaled-part.ensures in
    let total : c.sum-total.result.0 ≡ get_or c.args.w.now 8 0 + scaled_of (get_or c.args.w.now 7 0) c.args.size =
    ap (λ (p : Prob). p.0) c.sum-total.ensures ∙ ap (λ (n : ℕ). get_or c.args.w.now 8 0 + n) part in
    let loaded = sym c.lightly_loaded-light.ensures ∙ c.if-light.false in
    let more : ltb (get_or c.args.w.now 8 0 + scaled_of (get_or c.args.w.now 7 0) c.args.size) low ≡ false = rw total at (sym c.is_low-low.ensures ∙ c.if-low.false) in
    let little = sym c.small-little.ensures ∙ c.if-little.true in
    rw (ap (λ (p : Prob). p.0) c.limit_sum-then-little.ensures, total) (small-draws c.args.w.now c.requires.w_len.0 c.args.bytes c.args.size (get_or c.args.calls.now (c.args.at + 4) 0) loaded more little)

pub returns-then-drops : goal.returns-then-drops
returns-then-drops c =
    let part : c.scaled-part.result.0 ≡ scaled_of (get_or c.args.w.now 7 0) c.args.size = ap (λ (p : Prob). p.0) c.scaled-part.ensures in
    let total : c.sum-total.result.0 ≡ get_or c.args.w.now 8 0 + scaled_of (get_or c.args.w.now 7 0) c.args.size =
    ap (λ (p : Prob). p.0) c.sum-total.ensures ∙ ap (λ (n : ℕ). get_or c.args.w.now 8 0 + n) part in
    let loaded = sym c.lightly_loaded-light.ensures ∙ c.if-light.false in
    let more : ltb (get_or c.args.w.now 8 0 + scaled_of (get_or c.args.w.now 7 0) c.args.size) low ≡ false = rw total at (sym c.is_low-low.ensures ∙ c.if-low.false) in
    let large = sym c.small-little.ensures ∙ c.if-little.false in
    let drops = rw (c.early.ensures, total, part) at c.if-drops.true in
    early-draws c.args.w.now c.requires.w_len.0 c.args.bytes c.args.size (get_or c.args.calls.now (c.args.at + 4) 0) loaded more large drops _ c.drop_early.ensures

pub returns : goal.returns
returns c =
    let part : c.scaled-part.result.0 ≡ scaled_of (get_or c.args.w.now 7 0) c.args.size = ap (λ (p : Prob). p.0) c.scaled-part.ensures in
    let total : c.sum-total.result.0 ≡ get_or c.args.w.now 8 0 + scaled_of (get_or c.args.w.now 7 0) c.args.size =
    ap (λ (p : Prob). p.0) c.sum-total.ensures ∙ ap (λ (n : ℕ). get_or c.args.w.now 8 0 + n) part in
    let loaded = sym c.lightly_loaded-light.ensures ∙ c.if-light.false in
    let more : ltb (get_or c.args.w.now 8 0 + scaled_of (get_or c.args.w.now 7 0) c.args.size) low ≡ false = rw total at (sym c.is_low-low.ensures ∙ c.if-low.false) in
    let large = sym c.small-little.ensures ∙ c.if-little.false in
    let passes = rw (c.early.ensures, total, part) at c.if-drops.false in
    rw total (passed-draws c.args.w.now c.requires.w_len.0 c.args.bytes c.args.size (get_or c.args.calls.now (c.args.at + 4) 0) loaded more large passes)
