-- What a departure gives, by what the library's functions find.
use mathlib.Core.Path.{◌≡◌, refl, ap, sym, ◌∙◌}
use mathlib.Core.Bool.{Bool, true, false}
use mathlib.Core.List.{List, [], ◌∷◌, ◌++◌}
use Prim.Native.Nat.{ℕ, ◌-◌}
use lib.ListN.{get_or, length, set}
use Rattle.refusals.specs.Numbers.{number_of}
use Rattle.refusals.specs.Rows.{first_refusal}
use Rattle.refusals.specs.declared.Refusal.{Refusal}
use Rattle.schedule.specs.Choosing.{choose}
use Rattle.schedule.specs.Ring.{charged_in, chosen_in, schedule_of, two_lists}
use Rattle.schedule.specs.declared.Lists.{Lists}
use Rattle.store.specs.Take.{sizes_after_take}
use Rattle.fq_state.specs.State.{State, counts_of, flow_at}
use Rattle.fq_state.specs.declared.Common.{Common}
use Rattle.fq_state.specs.declared.Flow.{Flow}
use Rattle.fq_rules.specs.Answer.{Answer, departed, refused, unless_refused}
use Rattle.fq_rules.specs.Departure.{
  choice_of,
  departed_common,
  departed_flow,
  departed_sizes,
  departure,
  departure_refusal,
  head_handle,
  head_size,
  head_word_refused,
  served_flow,
}
use Rattle.fq_rules.specs.Departure.{before_choosing}
use Rattle.fq_rules.proofs.Replies.{refused-reply}
use Rattle.fq_rules.proofs.Rows.{above, first-refuses, none-refuses-yet}

-- what a departure promises of its answer, the record and the sizes
abbrev pub Departs : (s : State) (handles sizes : List ℕ) (clock : ℕ)
    (answer : Answer) (after : State) (sizes' : List ℕ) → Type 0
Departs s handles sizes clock answer after sizes' =
    let reply = departure s handles sizes clock in
    (answer ≡ reply.answer)
    × (after ≡ reply.state)
    × (sizes' ≡ departed_sizes s reply.answer sizes)

module _ (s : State) (handles sizes : List ℕ) (clock : ℕ) where
  abbrev rows : List (ℕ × Bool)
  rows = before_choosing s (length handles) (length sizes) clock

  abbrev last : List (ℕ × Bool)
  last = (9, head_word_refused s.common.settings.slots (served_flow s) sizes) ∷ []

  departure-reply : departure s handles sizes clock
      ≡ unless_refused (first_refusal (rows ++ last)) s
      (record {
        answer = departed (choice_of s).flow (head_handle (served_flow s) handles) (head_size (served_flow s) sizes);
        state =
            record {
              common = departed_common s.common (served_flow s).head clock (head_size (served_flow s) sizes);
              schedule = charged_in (chosen_in s.schedule (choice_of s)) (choice_of s).flow (head_size (served_flow s) sizes);
              flows = set s.flows (choice_of s).flow (departed_flow (served_flow s) sizes clock (head_size (served_flow s) sizes));
            };
      })
  unfolding departure departure_refusal
  departure-reply = refl

  pub departure-refused : (r : Refusal) → number_of r ≡ first_refusal rows →
      Departs s handles sizes clock (refused (number_of r)) s sizes
  departure-refused r e =
      let given : first_refusal (rows ++ last) ≡ number_of r = first-refuses rows last (number_of r) (above r) e in
      rw (departure-reply, given, refused-reply) (refl, refl, refl)

  module _ (passed : first_refusal rows ≡ 0) (counts : List ℕ) (flow : ℕ) (f : Flow) (ec : counts ≡ counts_of s.flows)
      (el : flow ≡ (choose counts (two_lists s.schedule)).flow) (ef : f ≡ flow_at s.flows flow) where
    past : first_refusal (rows ++ last) ≡ first_refusal last
    past = none-refuses-yet rows last refl (sym passed)

    chosen : (choice_of s).flow ≡ flow
    chosen = sym (rw ec at el)

    served : served_flow s ≡ f
    served = ap (flow_at s.flows) chosen ∙ sym ef

    pub departure-lost : head_word_refused s.common.settings.slots f sizes ≡ true → Departs s handles sizes clock (refused 9) s sizes
    departure-lost wrong =
        let given : first_refusal last ≡ 9 = rw (served, wrong) in
        rw (departure-reply, past ∙ given) (refl, refl, refl)

    pub departure-taken : (lists : Lists) (order deficits deficits' : List ℕ) (handle size : ℕ) (common : Common) (next : Flow)
        (flows : List Flow) (sizes' : List ℕ) →
        head_word_refused s.common.settings.slots f sizes ≡ false →
        schedule_of lists order deficits ≡ chosen_in s.schedule (choose counts (two_lists s.schedule)) →
        handle ≡ head_handle f handles → size ≡ head_size f sizes →
        common ≡ departed_common s.common f.head clock size →
        deficits' ≡ set deficits flow (get_or deficits flow 0 - size) →
        next ≡ departed_flow f sizes clock size → flows ≡ set s.flows flow next →
        sizes' ≡ sizes_after_take sizes f.head s.common.store.freed →
        Departs s handles sizes clock (departed flow handle size)
        (record { common = common; schedule = schedule_of lists order deficits'; flows = flows }) sizes'
    departure-taken lists order deficits deficits' handle size common next flows sizes' right es eh ez eo ed en ew et =
        let given : first_refusal last ≡ 0 = rw (served, right) in
        let moved : chosen_in s.schedule (choice_of s) ≡ schedule_of lists order deficits = sym (rw ec at es) in
        rw (departure-reply, past ∙ given, moved, served, chosen, eo, ed, ew, en, et, eh, ez) (refl, refl, refl)
