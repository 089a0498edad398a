-- An accepted fresh record: well formed, empty, and its chains sound where the tables fit.
use mathlib.Core.Path.{◌≡◌, refl, subst}
use mathlib.Core.Bool.{true, false, ◌&&◌}
use mathlib.Core.List.{List, [], ◌∷◌}
use Prim.Native.Nat.{ℕ, zero, suc}
use borrow.Author.Tests.{eqb-true, not-false}
use lib.Dec.{eqb}
use lib.ListN.{get_or, length, replicate}
use Rattle.laws.proofs.Tests.{and_left, and_right}
use Rattle.calls.specs.Packets.{Packet}
use Rattle.pie.specs.Constants.{full_allowance}
use Rattle.pie.specs.Verdicts.{place_of}
use Rattle.pie.specs.declared.Verdict.{Verdict}
use Rattle.pie.specs.declared.Verdict.TheVariants.{Enqueued, Marked, DroppedBytes, DroppedSlots, DroppedEarly}
use Rattle.store_guarantees.specs.Sound.{Sound}
use Rattle.store_guarantees.proofs.Fresh as store
use Rattle.store_guarantees.proofs.Lists.{get_or-replicate-same}
use Rattle.fq_state.specs.Flow.{empty_flow}
use Rattle.fq_state.specs.Fresh.{fresh, fresh_refusal, fresh_state}
use Rattle.fq_state.specs.State.{flow_at}
use Rattle.fq_state.specs.declared.Settings.{Settings}
use Rattle.fq_guarantees.specs.Kept.{Sound as Formed}
use Rattle.fq_state.proofs.Facts.{SettingsFit}
use Rattle.fq_guarantees.proofs.Facts.{facts}
use Rattle.fq_guarantees.proofs.FreshFormed.{fresh-accepted}
use Rattle.fq_guarantees.proofs.NeverMalformed.{fresh-sound}
use Rattle.fq_guarantees.specs.Handed.{Flows, chains_of, queued}
use Rattle.fq_guarantees.proofs.Whole.{Held, Whole, unfit_of}

no_bytes : (flow n : ℕ) → (flow_at (replicate n (empty_flow full_allowance)) flow).bytes ≡ 0
no_bytes flow zero = refl
no_bytes zero (suc n) = refl
no_bytes (suc flow) (suc n) = no_bytes flow n

pub no-counts : (v : Verdict) → get_or {A = ℕ} (0 ∷ 0 ∷ 0 ∷ 0 ∷ 0 ∷ []) (place_of v) 0 ≡ 0
no-counts Enqueued = refl
no-counts Marked = refl
no-counts DroppedBytes = refl
no-counts DroppedSlots = refl
no-counts DroppedEarly = refl

module _ (settings : Settings) (clock : ℕ) (e : fresh_refusal settings clock ≡ 0) where
  made-fresh : fresh settings clock ≡ fresh_state settings clock
  unfolding fresh
  made-fresh = rw (fresh-accepted settings clock e)

  formed : Formed (fresh_state settings clock)
  formed = subst Formed made-fresh (fresh-sound settings clock e)

  fits : SettingsFit settings
  fits = (facts (fresh_state settings clock) formed.formed).common.settings

  module _ (handles sizes : List ℕ) where
    abbrev begun : Flows
    begun = record { state = fresh_state settings clock; handles = handles; sizes = sizes }

    pub begun-is : ◌≡◌ {A = Flows} (record { state = fresh settings clock; handles = handles; sizes = sizes }) begun
    begun-is = rw made-fresh

    begun-linked : unfit_of begun ≡ false → Sound (chains_of begun)
    begun-linked fit =
        let a = eqb (length handles) settings.slots in
        let b = eqb (length sizes) settings.slots in
        let both : a && b ≡ true = not-false (a && b) fit in
        (store.fresh-sound settings.slots 64 handles sizes fits.slots-low fits.slots-high
        (eqb-true _ _ (and_left a b both)) (eqb-true _ _ (and_right a b both))).0

    pub begun-empty : (flow : ℕ) → queued flow begun ≡ []
    begun-empty flow = get_or-replicate-same {A = List Packet} 64 flow []

    begun-held : (flow : ℕ) → Held flow begun
    begun-held flow = let none = begun-empty flow in record { bytes = rw none (no_bytes flow 64); sized = rw none tt }

    pub begun-whole : Whole begun
    begun-whole = record { formed = formed; linked = begun-linked; held = begun-held; five = refl }
