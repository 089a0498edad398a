-- Demand 1: a call's rows are in order, so the number that they give is the lowest whose test holds.
use mathlib.Core.Path.{◌≡◌, refl, subst}
use Prim.Native.Nat.{ℕ}
use native.Mathlib.Omega.{arith}
use Rattle.refusals.specs.Answer.{refused}
use Rattle.refusals.specs.Rows.{Ascending, first_refusal}
use Rattle.refusals.proofs.Ordered.{lowest-given}
use Rattle.ring.specs.Calls.{Call, arrive, depart, update}
use Rattle.pair_rules.specs.Fresh.{fresh}
use Rattle.pair_rules.specs.WellFormed.{well_formed}
use Rattle.pair_rules.specs.declared.Pair.{Pair}
use Rattle.pair_rules.specs.declared.Setup.{Setup}
use Rattle.pair_rules.specs.declared.Which.{Which}
use Rattle.pair_rules.proofs.FreshFormed.{fresh-well-formed}
use Rattle.pair_guarantees.specs.Refusals.{Applies, FreshInOrder, RefusedInOrder, Refusals, TablesKept, rows_of}
use Rattle.pair_guarantees.proofs.Replies.{number-refuses, refused-by-number}

ascending : (p : Pair) (w : Which) (c : Call) → Ascending 0 (rows_of p w c)
ascending p w (arrive handles sizes clock handle size ecn u) = omega arith
ascending p w (depart handles sizes clock) = omega arith
ascending p w (update clock) = omega arith

tables-kept : (p : Pair) (w : Which) (c : Call) (n : ℕ) → TablesKept p w c (refused n)
tables-kept p w (arrive handles sizes clock handle size ecn u) n = (refl, refl)
tables-kept p w (depart handles sizes clock) n = refl
tables-kept p w (update clock) n = tt

pub calls-refused : (p : Pair) (w : Which) (c : Call) → RefusedInOrder p w c
calls-refused p w c =
    let given = lowest-given (rows_of p w c) (ascending p w c) in
    record {
      lowest = λ n e.
          let r = refused-by-number p w c n e in (
            subst (Applies p w c) r.1 (given.applies (omega arith)),
            λ m a. let f = given.lowest m a in omega arith,
          );
      refuses = λ m a. (first_refusal (rows_of p w c), number-refuses p w c (given.lowest m a).0);
      unchanged = λ n e. ((refused-by-number p w c n e).2, tables-kept p w c n);
    }

-- ── fresh records ──

fresh-refused : (slots : ℕ) (intercom passengers : Setup) → FreshInOrder slots intercom passengers
unfolding fresh well_formed
fresh-refused slots intercom passengers =
    record {
      refuses = λ e. rw e;
      accepts = λ e. rw e;
      formed = fresh-well-formed slots intercom passengers;
      zero-malformed = refl;
    }

pub refusals : Refusals
refusals = record { calls = calls-refused; starts = fresh-refused }
