-- `departure`: the tests in their order, then the words in which the new records differ.
use borrow.Author.Tests.{eq-eqb, ne_eqb, ltb-false}
use mathlib.Core.Path.{◌≡◌, ap, refl, sym, ◌∙◌}
use mathlib.Core.Bool.{Bool, true, false}
use mathlib.Core.List.{List}
use Prim.Native.Nat.{ℕ, ◌≤◌, ◌<◌}
use native.Mathlib.Omega.{arith}
use lib.Dec.{ltb}
use lib.ListN.{get_or, length}
use lib.Seq.{get_or-set_other}
use Rattle.laws.proofs.Tests.{or-neither}
use Rattle.pie.specs.declared.Rate.{Rate}
use Rattle.refusals.specs.Tests.{head_refused}
use Rattle.refusals.proofs.Fitting.{head-fits}
use Rattle.pair_rules.proofs.Symmetry.{well-formed-seen}
use Rattle.pair_rules.specs.Departure.{head_size, head_word_refused}
use Rattle.pair_rules.proofs.WhenAccepted.{Known, known}
use Rattle.pair_rules.specs.WellFormed.{well_formed}
use Rattle.pair_words.specs.Words.{records_of, shared_of, state_of}
use Rattle.std.proofs.lemmas.Result.{err_from_is_err_and}
use Rattle.pair_rules.specs.declared.Which.{Which}
use Rattle.pair_steps.proofs.Checks.{passes, refuses}
use Rattle.pair_steps.proofs.Replies.{departed-gives, tables-fit}
use Rattle.pair_steps.proofs.Replies.{departure-empty, departure-late, departure-made, departure-wrong}
use Rattle.pair_steps.proofs.Words.{departed-words, left-rate, taken-words}
use Rattle.pair_steps.proofs.departing.departure.Goals as goal

-- what the records' words say
module _ (w : Which) (sh ow ot : List ℕ) (f : well_formed (records_of w sh ow ot) ≡ true) where
  known_of : Known (shared_of sh).slots (shared_of sh).store (state_of ow)
  known_of =
      known w (shared_of sh) (state_of ow) (state_of ot) (sym (well-formed-seen w (shared_of sh) (state_of ow) (state_of ot)) ∙ f)

  head_in : (sizes : List ℕ) → length sizes ≡ (shared_of sh).slots →
      ((state_of ow).ends.head < length sizes) × ((state_of ow).ends.head < 65536)
  head_in sizes z = let k = known_of in omega (arith, k.own.head-high, k.slots-high, z)

-- the head's word was tested
not-wrong : (ow sizes : List ℕ) (size : ℕ) (wrong : Bool) → size ≡ head_size (state_of ow) sizes →
    wrong ≡ head_refused (state_of ow).backlog size → wrong ≡ false → head_refused (state_of ow).backlog (head_size (state_of ow) sizes) ≡ false
not-wrong ow sizes size wrong es ew e = sym (rw es at ew) ∙ e

is-wrong : (ow sizes : List ℕ) (size : ℕ) (wrong : Bool) → size ≡ head_size (state_of ow) sizes →
    wrong ≡ head_refused (state_of ow).backlog size → wrong ≡ true → head_refused (state_of ow).backlog (head_size (state_of ow) sizes) ≡ true
is-wrong ow sizes size wrong es ew e = sym (rw es at ew) ∙ e

pub returns-in_err-check_clock : goal.returns-in_err-check_clock
returns-in_err-check_clock c =
    let s = shared_of c.args.shared.now in
    let h = c.args.handles.now in
    let z = c.args.sizes.now in
    let p = err_from_is_err_and c.from_residual.result c.from_residual.ensures.1 in
    let e = refuses _ _ _ c.in_err-check_clock.ensures in
    rw (
      p.1,
      p.2,
      e.1,
      departure-late s (state_of c.args.own.now) (state_of c.args.other.now) h z c.args.clock
          (tables-fit s h z c.requires.tables.handles_len c.requires.tables.sizes_len)
          c.args.which c.requires.formed.formed e.0,
    ) (refl, refl, refl, refl)

pub returns-then-queued-eq0 : goal.returns-then-queued-eq0
unfolding shared_of state_of
returns-then-queued-eq0 c =
    let s = shared_of c.args.shared.now in
    let h = c.args.handles.now in
    let z = c.args.sizes.now in
    rw (departure-empty s (state_of c.args.own.now) (state_of c.args.other.now) h z c.args.clock
    (tables-fit s h z c.requires.tables.handles_len c.requires.tables.sizes_len)
    c.args.which c.requires.formed.formed (passes _ _ _ c.in_ok-check_clock.ensures) (eq-eqb _ _ (rw c.backlog_at-queued.ensures at c.if-queued-eq0.true)))
    (refl, refl, refl, refl)

pub size_at-size-requires : goal.size_at-size-requires
unfolding shared_of state_of
size_at-size-requires c =
    head_in c.args.which c.args.shared.now c.args.own.now c.args.other.now c.requires.formed.formed c.args.sizes.now c.requires.tables.sizes_len

pub wrong_head-requires : goal.wrong_head-requires
unfolding shared_of state_of
wrong_head-requires c =
    let k = known_of c.args.which c.args.shared.now c.args.own.now c.args.other.now c.requires.formed.formed in
    let some = rw c.backlog_at-queued.ensures at c.if-queued-eq0.false in
    rw c.backlog_at-queued.ensures (omega (arith, some, k.own.count-high, k.slots-high))

pub returns-then-wrong_head : goal.returns-then-wrong_head
unfolding shared_of state_of
returns-then-wrong_head c =
    let s = shared_of c.args.shared.now in
    let o = state_of c.args.own.now in
    let h = c.args.handles.now in
    let z = c.args.sizes.now in
    let wrong = is-wrong c.args.own.now z _ _ c.size_at-size.ensures (rw c.backlog_at-queued.ensures at c.wrong_head.ensures) c.if-wrong_head.true in
    let x : head_word_refused s.slots o z ≡ true = rw wrong in
    rw (departure-wrong s o (state_of c.args.other.now) h z c.args.clock
    (tables-fit s h z c.requires.tables.handles_len c.requires.tables.sizes_len)
    c.args.which c.requires.formed.formed (passes _ _ _ c.in_ok-check_clock.ensures) (ne_eqb _ _ (rw c.backlog_at-queued.ensures at c.if-queued-eq0.false)) x)
    (refl, refl, refl, refl)

pub leads_nowhere-requires : goal.leads_nowhere-requires
unfolding shared_of state_of
leads_nowhere-requires c =
    head_in c.args.which c.args.shared.now c.args.own.now c.args.other.now c.requires.formed.formed c.args.sizes.now c.requires.tables.sizes_len

pub returns-then-leads_nowhere : goal.returns-then-leads_nowhere
unfolding shared_of state_of
returns-then-leads_nowhere c =
    let s = shared_of c.args.shared.now in
    let o = state_of c.args.own.now in
    let h = c.args.handles.now in
    let z = c.args.sizes.now in
    let right = not-wrong c.args.own.now z _ _ c.size_at-size.ensures (rw c.backlog_at-queued.ensures at c.wrong_head.ensures) c.if-wrong_head.false in
    let lost = sym (rw c.backlog_at-queued.ensures at c.leads_nowhere.ensures) ∙ c.if-leads_nowhere.true in
    let x : head_word_refused s.slots o z ≡ true = rw (right, lost) in
    rw (departure-wrong s o (state_of c.args.other.now) h z c.args.clock
    (tables-fit s h z c.requires.tables.handles_len c.requires.tables.sizes_len)
    c.args.which c.requires.formed.formed (passes _ _ _ c.in_ok-check_clock.ensures) (ne_eqb _ _ (rw c.backlog_at-queued.ensures at c.if-queued-eq0.false)) x)
    (refl, refl, refl, refl)

pub follow-next-requires : goal.follow-next-requires
unfolding shared_of state_of
follow-next-requires c =
    head_in c.args.which c.args.shared.now c.args.own.now c.args.other.now c.requires.formed.formed c.args.sizes.now c.requires.tables.sizes_len

pub offset_bounds-handles-head : goal.offset_bounds-handles-head
unfolding shared_of state_of
offset_bounds-handles-head c =
    let k = known_of c.args.which c.args.shared.now c.args.own.now c.args.other.now c.requires.formed.formed in
    omega (arith, k.own.head-high, k.slots-high)

pub bounds-handles-head : goal.bounds-handles-head
unfolding shared_of state_of
bounds-handles-head c =
    let k = known_of c.args.which c.args.shared.now c.args.own.now c.args.other.now c.requires.formed.formed in
    omega (arith, k.own.head-high, c.requires.tables.handles_len)

pub write_freed-requires : goal.write_freed-requires
unfolding shared_of state_of
write_freed-requires c =
    let k = known_of c.args.which c.args.shared.now c.args.own.now c.args.other.now c.requires.formed.formed in
    omega (arith, k.own.head-high, k.freed-high, k.slots-high, c.requires.tables.sizes_len)

pub overflow_add-shared : goal.overflow_add-shared
unfolding shared_of state_of
overflow_add-shared c =
    let sh = c.args.shared.now in
    let k = known_of c.args.which sh c.args.own.now c.args.other.now c.requires.formed.formed in
    omega (arith, k.spare-high, k.slots-high, get_or-set_other sh 4 5 (state_of c.args.own.now).ends.head 0 (λ x. omega arith))

pub overflow_sub-left-2 : goal.overflow_sub-left-2
unfolding shared_of state_of
overflow_sub-left-2 c =
    rw (c.backlog_at-queued.ensures, c.size_at-size.ensures) (head-fits _ _
    (not-wrong c.args.own.now c.args.sizes.now _ _ c.size_at-size.ensures (rw c.backlog_at-queued.ensures at c.wrong_head.ensures) c.if-wrong_head.false)).fits

pub measure-requires-clause-k_bound : goal.measure-requires-clause-k_bound
unfolding shared_of state_of
measure-requires-clause-k_bound c =
    let k = known_of c.args.which c.args.shared.now c.args.own.now c.args.other.now c.requires.formed.formed in
    let w = c.args.own.now in
    let same = left-rate c.args.clock c.size_at-size.result c.follow-next.result w c.requires.formed.own_len in
    let low = (or-neither (ltb c.args.clock (get_or w 2 0)) _ (passes _ _ _ c.in_ok-check_clock.ensures)).0 in
    let later : get_or w 2 0 ≤ c.args.clock = ltb-false _ _ low in
    let fine = not-wrong w c.args.sizes.now _ _ c.size_at-size.ensures (rw c.backlog_at-queued.ensures at c.wrong_head.ensures)
    c.if-wrong_head.false in
    rw c.backlog_at-queued.ensures (
      rw (ap (λ (r : Rate). r.start.0) same) (omega (arith, k.own.start-high, later)),
      rw (ap (λ (r : Rate). r.average.0) same) k.own.average-high,
      rw (ap (λ (r : Rate). r.counted.0) same) k.own.counted-high,
      rw c.size_at-size.ensures (head-fits _ _ fine).high,
    )

pub returns : goal.returns
unfolding shared_of state_of
returns c =
    let w = c.args.which in
    let sh = c.args.shared.now in
    let ow = c.args.own.now in
    let s = shared_of sh in
    let o = state_of ow in
    let t = state_of c.args.other.now in
    let h = c.args.handles.now in
    let z = c.args.sizes.now in
    let size = head_size o z in
    let link = sym (rw c.backlog_at-queued.ensures at c.leads_nowhere.ensures) ∙ c.if-leads_nowhere.false in
    let fine = not-wrong ow z _ _ c.size_at-size.ensures (rw c.backlog_at-queued.ensures at c.wrong_head.ensures) c.if-wrong_head.false in
    let right : head_word_refused s.slots o z ≡ false = rw (fine, link) in
    let made = departure-made s o t h z c.args.clock (tables-fit s h z c.requires.tables.handles_len c.requires.tables.sizes_len) w
    c.requires.formed.formed (passes _ _ _ c.in_ok-check_clock.ensures) (ne_eqb _ _ (rw c.backlog_at-queued.ensures at c.if-queued-eq0.false)) right in
    departed-gives w s o t h z c.args.clock _ sh _ ow _ _ made
    c.size_at-size.ensures
    (taken-words o.ends.head sh c.requires.shared_len)
    (rw (c.follow-next.ensures, c.size_at-size.ensures, c.backlog_at-queued.ensures) at c.measure.ensures
    ∙ departed-words z c.args.clock size ow c.requires.formed.own_len)
    c.write_freed.ensures
