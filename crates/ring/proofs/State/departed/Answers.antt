-- `State::departed`: the head leaves, within a well-formed state's ranges.
use mathlib.Core.Path.{◌≡◌}
use Prim.Native.Nat.{ℕ, ◌+◌, ◌%◌}
use native.Mathlib.Omega.{arith}
use Rattle.units.specs.Kinds.{micros}
use Rattle.pie.specs.Backlog.{left}
use Rattle.pie.specs.DepartureRate.{rate_after}
use Rattle.pie.specs.declared.Backlog.{Backlog}
use Rattle.pie.specs.declared.Rate.{Rate}
use Rattle.ring.specs.Departure.{departed_state}
use Rattle.ring.specs.declared.State.{State}
use Rattle.ring.proofs.Facts.{facts}
use Rattle.ring.proofs.State.departed.Goals as goal

-- the new state, from what the calls return
departed-is : (s : State) (clock size : ℕ) (b : Backlog) (r : Rate) (first : ℕ) →
    b ≡ left s.backlog size →
    r ≡ rate_after s.pie.rate clock size b.count b.bytes.0 →
    first ≡ (s.first + 1) % s.settings.slots →
    record {
      settings = s.settings;
      clock = micros clock;
      last = s.last;
      pie =
          record {
            prob = s.pie.prob;
            old = s.pie.old;
            allowance = s.pie.allowance;
            accumulated = s.pie.accumulated;
            rate = r;
          };
      backlog = b;
      first = first;
      verdicts = s.verdicts;
      active = s.active;
    } ≡ departed_state s clock size
unfolding departed_state
departed-is s clock size b r first eb er ef = rw (er, eb, ef)

pub depart-rate-requires : goal.depart-rate-requires
depart-rate-requires c = let f = facts c.args.self c.requires.self_value in omega arith

pub place-first-requires : goal.place-first-requires
place-first-requires c =
    let f = facts c.args.self c.requires.self_value in (f.first-high, omega arith, f.slots-high)

pub returns : goal.returns
returns c =
    departed-is c.args.self c.args.clock.0 c.args.size.0 _ _ _ c.leave-backlog.ensures c.depart-rate.ensures c.place-first.ensures
