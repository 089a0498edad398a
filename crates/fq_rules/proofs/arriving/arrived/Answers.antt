-- `arrived`: the accumulated probability moves on; an admitted packet enters the backlog and the chain.
use mathlib.Core.Path.{◌≡◌, sym, ◌∙◌}
use mathlib.Core.Bool.{true, false}
use Prim.Native.Nat.{ℕ}
use Rattle.units.specs.declared.Prob.{Prob}
use Rattle.pie.specs.Backlog.{entered}
use Rattle.pie.specs.Verdicts.{admitted}
use Rattle.pie.specs.declared.Backlog.{Backlog}
use Rattle.pie.specs.declared.Pie.{Pie}
use Rattle.pie.specs.declared.Verdict.{Verdict}
use Rattle.store.specs.Put.{ends_after_put}
use Rattle.store.specs.declared.Ends.{Ends}
use Rattle.fq_state.specs.Flow.{backlog_of, ends_of, flow_with, pie_of}
use Rattle.fq_state.specs.declared.Flow.{Flow}
use Rattle.fq_rules.specs.Arrival.{arrived_flow, arrived_pie}
use Rattle.fq_rules.proofs.arriving.arrived.Goals as goal

-- the flow, from what the calls return
module _ (target : ℕ) (f : Flow) (size place : ℕ) (v : Verdict) (accumulated : Prob) (p : Pie) (b : Backlog) (ends : Ends) (next : Flow)
    (ep : p ≡ pie_of f) (eb : b ≡ backlog_of f) (ee : ends ≡ ends_of f) (ea : accumulated ≡ (arrived_pie target f v).accumulated) where
  abbrev moved : Pie
  moved = record { prob = p.prob; old = p.old; allowance = p.allowance; accumulated = accumulated; rate = p.rate }

  admitted-is : (b' : Backlog) (ends' : Ends) → admitted v ≡ true → b' ≡ entered b size → ends' ≡ ends_after_put ends f.count place →
      next ≡ flow_with f moved b' ends' → next ≡ arrived_flow target f size place v
  unfolding arrived_flow
  admitted-is b' ends' a e h n = rw (n, e, h, ea, ep, eb, ee, a)

  dropped-is : admitted v ≡ false → next ≡ flow_with f moved b ends → next ≡ arrived_flow target f size place v
  unfolding arrived_flow
  dropped-is a n = rw (n, ea, ep, eb, ee, a)

pub enter-requires : goal.enter-requires
enter-requires c =
    rw c.backlog-queued.ensures c.requires

pub returns-then-admits : goal.returns-then-admits
returns-then-admits c target ea =
    admitted-is target _ _ _ _ _ _ _ _ _ c.pie-before.ensures c.backlog-queued.ensures c.ends-places.ensures ea _ _
    (sym c.admits-admits.ensures ∙ c.if-admits.true) c.enter.ensures c.put.ensures c.with.ensures

pub returns : goal.returns
returns c target ea =
    dropped-is target _ _ _ _ _ _ _ _ _ c.pie-before.ensures c.backlog-queued.ensures c.ends-places.ensures ea
    (sym c.admits-admits.ensures ∙ c.if-admits.false) c.with-2.ensures
