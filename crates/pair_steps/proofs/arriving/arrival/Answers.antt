-- `arrival`: the tests in their order, then the words in which the new records differ.
use borrow.Author.Tests.{ne_eqb}
use mathlib.Core.Path.{◌≡◌, ap, refl, sym, ◌∙◌}
use mathlib.Core.Bool.{Bool, true, false}
use mathlib.Core.List.{List}
use Prim.Native.Nat.{ℕ, ◌+◌, ◌<◌}
use native.Mathlib.Omega.{arith}
use lib.ListN.{get_or, length}
use Rattle.units.specs.declared.Prob.{Prob}
use Rattle.pie.specs.Constants.{most_verdicts}
use Rattle.pie.specs.Verdicts.{admitted, place_of, total}
use Rattle.pie.specs.declared.Verdict.{Verdict}
use Rattle.pie.proofs.Counts.{count-le-total}
use Rattle.refusals.proofs.Fitting.{size-in-range}
use Rattle.store.specs.Put.{free_place}
use Rattle.pair_rules.specs.Facing.{facing}
use Rattle.std.proofs.lemmas.Result.{err_from_is_err_and}
use Rattle.pair_rules.specs.declared.Which.{Which}
use Rattle.pair_rules.specs.declared.Which.TheVariants.{Intercom}
use Rattle.pair_steps.proofs.Checks.{passes, refuses}
use Rattle.pair_rules.proofs.Symmetry.{seen, well-formed-seen}
use Rattle.pair_rules.specs.Arrival.{freed_refused, verdict_of}
use Rattle.pair_rules.specs.Refusals.{counts_refused}
use Rattle.pair_rules.proofs.Seen.{verdict-seen}
use Rattle.pair_rules.proofs.WhenAccepted.{Known, admitted-room, known, room}
use Rattle.pair_rules.specs.WellFormed.{well_formed}
use Rattle.pair_words.specs.Words.{records_of, shared_of, state_of}
use Rattle.pair_words.proofs.Counts.{count_word}
use Rattle.pair_steps.specs.Written.{entered_words, settled_words}
use Rattle.pair_steps.proofs.Replies.{Fit, admitted-gives, dropped-gives, tables-fit}
use Rattle.pair_steps.proofs.Replies.{arrival-late, arrival-lost, arrival-made, arrival-size}
use Rattle.pair_steps.proofs.Words.{admitted-words, dropped-words, same-shared}
use Rattle.pair_steps.proofs.arriving.arrival.Goals as goal

-- what the records' words say
module _ (w : Which) (sh ow ot : List ℕ) (f : well_formed (records_of w sh ow ot) ≡ true) where
  known_of : Known (shared_of sh).slots (shared_of sh).store (state_of ow)
  known_of =
      known w (shared_of sh) (state_of ow) (state_of ot) (sym (well-formed-seen w (shared_of sh) (state_of ow) (state_of ot)) ∙ f)

  -- an admitted packet has a slot
  place-low : (size : ℕ) (ecn : Bool) (u : ℕ) (v : Verdict) → v ≡ verdict_of (records_of w sh ow ot) w size ecn u →
      admitted v ≡ true → free_place (shared_of sh).store < (shared_of sh).slots
  place-low size ecn u v ev e =
      let s = shared_of sh in
      let o = state_of ow in
      let t = state_of ot in
      let found = ev ∙ verdict-seen w s o t size ecn u in
      let free = (admitted-room (seen w s o t) Intercom size ecn u (sym (ap admitted found) ∙ e)).1 in
      room w s o t (facing w s) refl (sym (well-formed-seen w s o t) ∙ f) free

  module _ (handles sizes : List ℕ) (h : length handles ≡ (shared_of sh).slots) (z : length sizes ≡ (shared_of sh).slots)
      (left : total (state_of ow).verdicts < most_verdicts) where
    fit : Fit (shared_of sh) handles sizes
    fit = tables-fit (shared_of sh) handles sizes h z

    room-left : counts_refused (state_of ow) ≡ false
    room-left = ne_eqb (total (state_of ow).verdicts) most_verdicts (λ e. omega (arith, left, e))

count_low : (ow : List ℕ) (v : Verdict) → total (state_of ow).verdicts < most_verdicts → get_or ow (16 + place_of v) 0 < most_verdicts
count_low ow v left = omega (arith, left, count-le-total (state_of ow).verdicts (place_of v), count_word ow v)

pub returns-in_err-check_clock : goal.returns-in_err-check_clock
returns-in_err-check_clock c =
    let sh = c.args.shared.now in
    let ow = c.args.own.now in
    let ot = c.args.other.now in
    let w = c.args.which in
    let p = err_from_is_err_and c.from_residual.result c.from_residual.ensures.1 in
    let e = refuses _ _ _ c.in_err-check_clock.ensures in
    rw (
      p.1,
      p.2,
      e.1,
      arrival-late (shared_of sh) (state_of ow) (state_of ot) c.args.handles.now c.args.sizes.now c.args.clock
          c.args.packet.size c.args.ecn c.args.u
          (fit w sh ow ot c.requires.formed.formed c.args.handles.now c.args.sizes.now c.requires.tables.handles_len c.requires.tables.sizes_len c.requires.room)
          w c.requires.formed.formed e.0,
    ) (refl, refl, refl, refl, refl)

pub returns-in_err-check_size : goal.returns-in_err-check_size
returns-in_err-check_size c =
    let sh = c.args.shared.now in
    let ow = c.args.own.now in
    let ot = c.args.other.now in
    let w = c.args.which in
    let p = err_from_is_err_and c.from_residual-in_err-check_size.result c.from_residual-in_err-check_size.ensures.1 in
    let e = refuses _ _ _ c.in_err-check_size.ensures in
    rw (
      p.1,
      p.2,
      e.1,
      arrival-size (shared_of sh) (state_of ow) (state_of ot) c.args.handles.now c.args.sizes.now c.args.clock
          c.args.packet.size c.args.ecn c.args.u
          (fit w sh ow ot c.requires.formed.formed c.args.handles.now c.args.sizes.now c.requires.tables.handles_len c.requires.tables.sizes_len c.requires.room)
          w c.requires.formed.formed (passes _ _ _ c.in_ok-check_clock.ensures) e.0,
    ) (refl, refl, refl, refl, refl)

pub settle-requires : goal.settle-requires
settle-requires c = count_low c.args.own.now c.decided-found.result.verdict c.requires.room

pub returns-then-not-admits : goal.returns-then-not-admits
unfolding shared_of state_of
returns-then-not-admits c =
    let sh = c.args.shared.now in
    let ow = c.args.own.now in
    let ot = c.args.other.now in
    let w = c.args.which in
    let s = shared_of sh in
    let v = c.decided-found.result.verdict in
    let h = c.args.handles.now in
    let z = c.args.sizes.now in
    let dropped : admitted v ≡ false = sym c.admits.ensures ∙ c.if-not-admits.true in
    let kept : freed_refused s z v ≡ false = rw dropped in
    let made = arrival-made s (state_of ow) (state_of ot) h z c.args.clock c.args.packet.size c.args.ecn c.args.u
    (fit w sh ow ot c.requires.formed.formed h z c.requires.tables.handles_len c.requires.tables.sizes_len c.requires.room)
    v w c.requires.formed.formed (passes _ _ _ c.in_ok-check_clock.ensures) (passes _ _ _ c.in_ok-check_size.ensures)
    (room-left w sh ow ot c.requires.formed.formed h z c.requires.tables.handles_len c.requires.tables.sizes_len c.requires.room)
    c.decided-found.ensures.verdict_value kept in
    dropped-gives s (state_of ow) (state_of ot) h z c.args.clock c.args.packet.size c.args.ecn c.args.u v w made dropped c.args.packet.handle sh ow _
    (same-shared sh c.requires.shared_len)
    (c.settle.ensures
    ∙ ap (λ (r : Prob). settled_words ow c.args.clock r.0 v) c.decided-found.ensures.accumulated_value
    ∙ dropped-words c.args.clock c.args.packet.size (free_place s.store) v dropped ow c.requires.formed.own_len)

pub admit-requires-clause-shared_len : goal.admit-requires-clause-shared_len
unfolding shared_of state_of
admit-requires-clause-shared_len c =
    let k = known_of c.args.which c.args.shared.now c.args.own.now c.args.other.now c.requires.formed.formed in
    (c.requires.shared_len, c.requires.formed.own_len, c.requires.tables.sizes_len, k.slots-high, (size-in-range _ (passes _ _ _ c.in_ok-check_size.ensures)).1)

pub admit-requires-clause-shared_in_bounds : goal.admit-requires-clause-shared_in_bounds
unfolding shared_of state_of
admit-requires-clause-shared_in_bounds c =
    let place = place-low c.args.which c.args.shared.now c.args.own.now c.args.other.now c.requires.formed.formed c.args.packet.size c.args.ecn
    c.args.u c.decided-found.result.verdict c.decided-found.ensures.verdict_value
    (sym c.admits.ensures ∙ c.if-not-admits.false) in
    (omega (arith, place, c.requires.tables.handles_len), omega (arith, place, c.requires.tables.sizes_len))

pub admit-requires-clause-shared_bound : goal.admit-requires-clause-shared_bound
unfolding shared_of state_of
admit-requires-clause-shared_bound c =
    let k = known_of c.args.which c.args.shared.now c.args.own.now c.args.other.now c.requires.formed.formed in
    (omega (arith, k.used_high, k.slots-high), k.freed-high)

pub admit-requires-clause-own_bound : goal.admit-requires-clause-own_bound
unfolding shared_of state_of
admit-requires-clause-own_bound c =
    let k = known_of c.args.which c.args.shared.now c.args.own.now c.args.other.now c.requires.formed.formed in (
      omega (arith, k.own.count-high, k.slots-high),
      omega (arith, k.own.bytes_fit, k.own.buffer-high),
      omega (arith, k.own.tail-high, c.requires.tables.sizes_len),
    )

pub admit-requires-clause-v_bound : goal.admit-requires-clause-v_bound
admit-requires-clause-v_bound c = count_low c.args.own.now c.decided-found.result.verdict c.requires.room

pub returns-in_err-admit : goal.returns-in_err-admit
unfolding shared_of state_of
returns-in_err-admit c =
    let sh = c.args.shared.now in
    let ow = c.args.own.now in
    let ot = c.args.other.now in
    let w = c.args.which in
    let s = shared_of sh in
    let v = c.decided-found.result.verdict in
    let h = c.args.handles.now in
    let z = c.args.sizes.now in
    let p = err_from_is_err_and c.from_residual-in_err-admit.result c.from_residual-in_err-admit.ensures.1 in
    let e = refuses _ _ _ c.in_err-admit.ensures.refusal in
    let same = c.admit.ensures.lost e.0 in
    let lost : freed_refused s z v ≡ true = rw (sym c.admits.ensures ∙ c.if-not-admits.false, e.0) in
    rw (
      p.1,
      p.2,
      e.1,
      arrival-lost s (state_of ow) (state_of ot) h z c.args.clock c.args.packet.size c.args.ecn c.args.u
          (fit w sh ow ot c.requires.formed.formed h z c.requires.tables.handles_len c.requires.tables.sizes_len c.requires.room)
          v w c.requires.formed.formed (passes _ _ _ c.in_ok-check_clock.ensures) (passes _ _ _ c.in_ok-check_size.ensures)
          (room-left w sh ow ot c.requires.formed.formed h z c.requires.tables.handles_len c.requires.tables.sizes_len c.requires.room)
          c.decided-found.ensures.verdict_value lost,
    )
    (refl, same.0, same.1, same.2, same.3)

pub returns : goal.returns
unfolding shared_of state_of
returns c =
    let sh = c.args.shared.now in
    let ow = c.args.own.now in
    let ot = c.args.other.now in
    let w = c.args.which in
    let s = shared_of sh in
    let v = c.decided-found.result.verdict in
    let h = c.args.handles.now in
    let z = c.args.sizes.now in
    let place = free_place s.store in
    let admits = sym c.admits.ensures ∙ c.if-not-admits.false in
    let l = passes _ _ _ c.in_ok-admit.ensures.refusal in
    let kept : freed_refused s z v ≡ false = rw (admits, l) in
    let made = arrival-made s (state_of ow) (state_of ot) h z c.args.clock c.args.packet.size c.args.ecn c.args.u
    (fit w sh ow ot c.requires.formed.formed h z c.requires.tables.handles_len c.requires.tables.sizes_len c.requires.room)
    v w c.requires.formed.formed (passes _ _ _ c.in_ok-check_clock.ensures) (passes _ _ _ c.in_ok-check_size.ensures)
    (room-left w sh ow ot c.requires.formed.formed h z c.requires.tables.handles_len c.requires.tables.sizes_len c.requires.room)
    c.decided-found.ensures.verdict_value kept in
    let e = c.admit.ensures.stored l in
    admitted-gives s (state_of ow) (state_of ot) h z c.args.clock c.args.packet.size c.args.ecn c.args.u v
    w made admits c.args.packet.handle sh _ ow _ _ _
    e.0
    (e.1
    ∙ ap (λ (r : Prob). settled_words (entered_words ow c.args.packet.size place) c.args.clock r.0 v) c.decided-found.ensures.accumulated_value
    ∙ admitted-words c.args.clock c.args.packet.size place v admits ow c.requires.formed.own_len)
    e.2
    e.3
