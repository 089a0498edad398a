-- Demand 1: a call's rows are in order, so the number that they give is the lowest whose test holds.
use mathlib.Core.Path.{◌≡◌, refl, subst}
use mathlib.Core.List.{List}
use Prim.Native.Nat.{ℕ}
use native.Mathlib.Omega.{arith}
use Rattle.refusals.specs.Rows.{Ascending, first_refusal}
use Rattle.refusals.proofs.Ordered.{lowest-given}
use Rattle.modem_flow.specs.declared.Settings.{Settings}
use Rattle.modem_flow.specs.declared.State.{State}
use Rattle.modem_flow.specs.Answer.{Reply}
use Rattle.modem_flow.specs.Fresh.{fresh}
use Rattle.modem_flow.specs.State.{formed}
use Rattle.modem_flow.proofs.Kept.{fresh-formed}
use Rattle.modem.specs.Calls.{for_flow}
use Rattle.modem.specs.Counts.{counts_after}
use Rattle.modem_guarantees.specs.Calls.{Call, arrive, depart, update}
use Rattle.modem_guarantees.specs.Refusals.{Applies, FlowFirst, FreshInOrder, RefusedInOrder, Refusals, rows_of}
use Rattle.modem_guarantees.proofs.Replies.{number-refuses, refused-by-number}

ascending : (s : State) (c : Call) → Ascending 0 (rows_of s c)
ascending s (arrive row handles sizes clock handle size u) = omega arith
ascending s (depart row handles sizes clock) = omega arith
ascending s (update row clock credits) = omega arith

pub calls-refused : (s : State) (c : Call) → RefusedInOrder s c
calls-refused s c =
    let given = lowest-given (rows_of s c) (ascending s c) in
    record {
      lowest = λ n e.
          let r = refused-by-number s c n e in (
            subst (Applies s c) r.1 (given.applies (omega arith)),
            λ m a. let f = given.lowest m a in omega arith,
          );
      refuses = λ m a. (first_refusal (rows_of s c), number-refuses s c (given.lowest m a).0);
      unchanged = λ n e. cc (refused-by-number s c n e).2;
    }

fresh-refused : (settings : Settings) (clock : ℕ) → FreshInOrder settings clock
unfolding fresh formed
fresh-refused settings clock =
    record {
      refuses = λ e. rw e;
      accepts = λ e. rw e;
      is-formed = fresh-formed settings clock;
      zero-malformed = refl;
    }

flow-first : (flow : ℕ) (given : State) (counts : List (List ℕ)) (r : Reply) → FlowFirst flow given counts r
unfolding for_flow counts_after
flow-first flow given counts r = record { above = λ e. rw e; within = λ e. rw e; kept = λ n. refl }

pub refusals : Refusals
refusals = record { calls = calls-refused; starts = fresh-refused; flows = flow-first }
