-- Demand 1: a call's rows are in order, so the number that they give is the lowest whose test holds.
use mathlib.Core.Path.{refl, subst}
use Prim.Native.Nat.{ℕ}
use native.Mathlib.Omega.{arith}
use Rattle.refusals.specs.Rows.{Ascending, first_refusal}
use Rattle.refusals.proofs.Ordered.{lowest-given}
use Rattle.fq_state.specs.Fresh.{fresh}
use Rattle.fq_state.specs.State.{State}
use Rattle.fq_state.specs.WellFormed.{well_formed}
use Rattle.fq_state.specs.declared.Settings.{Settings}
use Rattle.fq_rules.specs.Answer.{refused}
use Rattle.fq_guarantees.specs.Calls.{Call, arrive, depart, update}
use Rattle.fq_guarantees.specs.Refusals.{Applies, FreshInOrder, RefusedInOrder, Refusals, TablesKept, rows_of}
use Rattle.fq_guarantees.proofs.FreshFormed.{fresh-well-formed}
use Rattle.fq_guarantees.proofs.Replies.{number-refuses, refused-by-number}

ascending : (s : State) (c : Call) → Ascending 0 (rows_of s c)
ascending s (arrive handles sizes clock key handle size ecn u) = omega arith
ascending s (depart handles sizes clock) = omega arith
ascending s (update clock) = omega arith

tables-kept : (s : State) (c : Call) (n : ℕ) → TablesKept s c (refused n)
tables-kept s (arrive handles sizes clock key handle size ecn u) n = (refl, refl)
tables-kept s (depart handles sizes clock) n = refl
tables-kept s (update clock) n = tt

pub calls-refused : (s : State) (c : Call) → RefusedInOrder s c
calls-refused s c =
    let given = lowest-given (rows_of s c) (ascending s c) in
    record {
      lowest = λ n e.
          let r = refused-by-number s c n e in (
            subst (Applies s c) r.1 (given.applies (omega arith)),
            λ m a. let f = given.lowest m a in omega arith,
          );
      refuses = λ m a. (first_refusal (rows_of s c), number-refuses s c (given.lowest m a).0);
      unchanged = λ n e. ((refused-by-number s c n e).2, tables-kept s c n);
    }

-- ── fresh records ──

fresh-refused : (settings : Settings) (clock : ℕ) → FreshInOrder settings clock
unfolding fresh well_formed
fresh-refused settings clock =
    record {
      refuses = λ e. (rw e, rw e);
      accepts = λ e. rw e;
      formed = fresh-well-formed settings clock;
      zero-malformed = refl;
    }

pub refusals : Refusals
refusals = record { calls = calls-refused; starts = fresh-refused }
