-- An accepted fresh pair: well formed, empty, and its chains sound where the tables fit.
use mathlib.Core.Path.{◌≡◌, refl, subst, sym}
use mathlib.Core.Bool.{true, false, ◌&&◌}
use mathlib.Core.List.{List, [], ◌∷◌}
use Prim.Native.Nat.{ℕ}
use borrow.Author.Tests.{eqb-true, not-false}
use lib.Dec.{eqb}
use lib.ListN.{get_or, length}
use Rattle.laws.proofs.Tests.{and_left, and_right}
use Rattle.calls.specs.Conservation.{Empty}
use Rattle.pie.specs.Verdicts.{place_of}
use Rattle.pie.specs.declared.Verdict.{Verdict}
use Rattle.pie.specs.declared.Verdict.TheVariants.{Enqueued, Marked, DroppedBytes, DroppedSlots, DroppedEarly}
use Rattle.refusals.specs.Answer.{made}
use Rattle.store_guarantees.specs.Sound.{Sound}
use Rattle.store_guarantees.proofs.Fresh.{fresh-sound}
use Rattle.pair_rules.specs.Fresh.{fresh, fresh_pair, setup_refused}
use Rattle.pair_rules.specs.declared.Setup.{Setup}
use Rattle.pair_rules.specs.declared.Which.{Which}
use Rattle.pair_rules.specs.declared.Which.TheVariants.{Intercom, Passengers}
use Rattle.pair_rules.proofs.FreshFormed.{SetupsFit, fresh-formed, made-accepted, setups-fit}
use Rattle.pair_guarantees.specs.Handed.{Queues, chains_of, fresh_queues, one_of_two}
use Rattle.pair_guarantees.proofs.QueueKeeps.{readings}
use Rattle.pair_guarantees.proofs.Whole.{Held, Whole, unfit_of, view_of}

module _ (slots : ℕ) (intercom passengers : Setup) (e : (fresh slots intercom passengers).answer ≡ made) where
  accepted : setup_refused slots intercom passengers ≡ false
  accepted = made-accepted slots intercom passengers e

  pub made-fresh : (fresh slots intercom passengers).pair ≡ fresh_pair slots intercom passengers
  unfolding fresh
  made-fresh = rw accepted

  pub fits : SetupsFit slots intercom passengers
  fits = setups-fit slots intercom passengers accepted

  module _ (handles sizes : List ℕ) where
    abbrev begun : Queues
    begun = record { pair = fresh_pair slots intercom passengers; handles = handles; sizes = sizes }

    same : fresh_queues slots intercom passengers handles sizes ≡ begun
    same = rw made-fresh

    begun-linked : unfit_of begun ≡ false → Sound (chains_of begun)
    begun-linked fit =
        let a = eqb (length handles) slots in
        let b = eqb (length sizes) slots in
        let both : a && b ≡ true = not-false (a && b) fit in
        (fresh-sound slots 2 handles sizes fits.slots-low fits.slots-high
        (eqb-true _ _ (and_left a b both)) (eqb-true _ _ (and_right a b both))).0

    begun-held : (w : Which) → Held (view_of w begun)
    begun-held Intercom = record { bytes = refl; sized = tt; five = refl }
    begun-held Passengers = record { bytes = refl; sized = tt; five = refl }

    pub fresh-whole : Whole (fresh_queues slots intercom passengers handles sizes)
    fresh-whole = rw same (record { formed = fresh-formed slots intercom passengers fits; linked = begun-linked; held = begun-held })

    no-counts : (v : Verdict) → get_or {A = ℕ} (0 ∷ 0 ∷ 0 ∷ 0 ∷ 0 ∷ []) (place_of v) 0 ≡ 0
    no-counts Enqueued = refl
    no-counts Marked = refl
    no-counts DroppedBytes = refl
    no-counts DroppedSlots = refl
    no-counts DroppedEarly = refl

    begun-empty : (w : Which) → Empty (one_of_two w) (readings w) begun
    begun-empty Intercom = record { queued = refl; bytes = refl; counted = no-counts }
    begun-empty Passengers = record { queued = refl; bytes = refl; counted = no-counts }

    pub fresh-empty : (w : Which) → Empty (one_of_two w) (readings w) (fresh_queues slots intercom passengers handles sizes)
    fresh-empty w = subst (Empty (one_of_two w) (readings w)) (sym same) (begun-empty w)
