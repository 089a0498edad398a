-- `departed`: the head leaves, within the ranges of a flow that fits.
use mathlib.Core.Path.{◌≡◌}
use mathlib.Core.List.{List}
use Prim.Native.Nat.{ℕ}
use native.Mathlib.Omega.{arith}
use Rattle.pie.specs.Backlog.{left}
use Rattle.pie.specs.DepartureRate.{rate_after}
use Rattle.pie.specs.declared.Backlog.{Backlog}
use Rattle.pie.specs.declared.Pie.{Pie}
use Rattle.pie.specs.declared.Rate.{Rate}
use Rattle.store.specs.Take.{ends_after_take}
use Rattle.store.specs.declared.Ends.{Ends}
use Rattle.fq_state.specs.Flow.{backlog_of, ends_of, flow_with, pie_of}
use Rattle.fq_state.specs.declared.Flow.{Flow}
use Rattle.fq_state.proofs.Facts.{flow-fits}
use Rattle.fq_rules.specs.Departure.{departed_flow}
use Rattle.fq_rules.proofs.departing.departed.Goals as goal

-- the flow, from what the calls return
departed-is : (f : Flow) (sizes : List ℕ) (clock size : ℕ) (p : Pie) (b left' : Backlog) (r : Rate) (places after : Ends) (next : Flow) →
    b ≡ backlog_of f → left' ≡ left b size → p ≡ pie_of f →
    r ≡ rate_after p.rate clock size left'.count left'.bytes.0 →
    places ≡ ends_of f → after ≡ ends_after_take places f.count sizes →
    next ≡ flow_with f (record { prob = p.prob; old = p.old; allowance = p.allowance; accumulated = p.accumulated; rate = r }) left' after →
    next ≡ departed_flow f sizes clock size
unfolding departed_flow
departed-is f sizes clock size p b left' r places after next eb el ep er es ea en = rw (en, er, ea, el, ep, es, eb)

pub leave-left-requires : goal.leave-left-requires
leave-left-requires c =
    rw c.backlog-queued.ensures (c.requires.clock_le_clock.1, c.requires.clock_le_clock.2)

pub depart-rate-requires : goal.depart-rate-requires
depart-rate-requires c =
    let f = flow-fits c.args.common c.args.f c.requires.f_value.0 in
    rw c.pie-before.ensures (omega (arith, f.start-high, c.requires), f.average-high, f.counted-high, c.requires.clock_le_clock.3)

pub take-requires : goal.take-requires
take-requires c =
    rw c.ends-places.ensures (c.requires.f_value.1, c.requires.f_value.2)

pub returns : goal.returns
returns c =
    departed-is _ _ _ _ _ _ _ _ _ _ _
    c.backlog-queued.ensures c.leave-left.ensures c.pie-before.ensures c.depart-rate.ensures c.ends-places.ensures c.take.ensures c.with.ensures
