-- What an arrival gives, by what the library's functions find.
use mathlib.Core.Path.{◌≡◌, refl, ap, sym, ◌∙◌}
use mathlib.Core.Bool.{Bool, true, false, cond, not}
use mathlib.Core.List.{List, [], ◌∷◌, ◌++◌}
use Prim.Native.Nat.{ℕ}
use lib.ListN.{length, set}
use Rattle.pie.specs.Verdicts.{admitted}
use Rattle.pie.specs.declared.Verdict.{Verdict}
use Rattle.refusals.specs.Numbers.{number_of}
use Rattle.refusals.specs.Rows.{first_refusal}
use Rattle.refusals.specs.declared.Refusal.{Refusal}
use Rattle.schedule.specs.Entering.{is_listed}
use Rattle.schedule.specs.Ring.{Schedule, entered_in, two_lists}
use Rattle.store.specs.Put.{free_place, handles_after_put, sizes_after_put}
use Rattle.store.specs.declared.Ends.{Ends}
use Rattle.fq_state.specs.Flow.{ends_of}
use Rattle.fq_state.specs.State.{State, flow_at}
use Rattle.fq_state.specs.declared.Common.{Common}
use Rattle.fq_state.specs.declared.Flow.{Flow}
use Rattle.fq_rules.specs.Answer.{Answer, refused, unless_refused, verdict}
use Rattle.fq_rules.specs.Arrival.{
  arrival,
  arrival_refusal,
  arrived_common,
  arrived_flow,
  arrived_handles,
  arrived_schedule,
  arrived_sizes,
  flow_number,
  freed_refused,
  verdict_of,
}
use Rattle.fq_rules.specs.Arrival.{before_verdict}
use Rattle.fq_rules.proofs.Replies.{refused-reply}
use Rattle.fq_rules.proofs.Rows.{above, first-refuses, none-refuses-yet}

-- what an arrival promises of its answer, the record and both tables
abbrev pub Arrives : (s : State) (handles sizes : List ℕ) (clock : ℕ) (key : List ℕ) (handle size : ℕ) (ecn : Bool) (u : ℕ)
    (answer : Answer) (after : State) (handles' sizes' : List ℕ) → Type 0
Arrives s handles sizes clock key handle size ecn u answer after handles' sizes' =
    let reply = arrival s handles sizes clock key size ecn u in
    (answer ≡ reply.answer)
    × (after ≡ reply.state)
    × (handles' ≡ arrived_handles s reply.answer handles handle)
    × (sizes' ≡ arrived_sizes s reply.answer sizes key size)

module _ (s : State) (handles sizes : List ℕ) (clock : ℕ) (key : List ℕ) (handle size : ℕ) (ecn : Bool) (u : ℕ) where
  abbrev rows : List (ℕ × Bool)
  rows = before_verdict s (length handles) (length sizes) clock size

  abbrev given : Flow
  given = flow_at s.flows (flow_number s key)

  abbrev said : Verdict
  said = verdict_of s.common given size ecn u

  abbrev last : List (ℕ × Bool)
  last = (9, freed_refused s.common sizes said) ∷ []

  abbrev target : ℕ
  target = s.common.settings.target.0

  arrival-reply : arrival s handles sizes clock key size ecn u
      ≡ unless_refused (first_refusal (rows ++ last)) s
      (record {
        answer = verdict said;
        state =
            record {
              common = arrived_common s.common sizes clock size said;
              schedule = arrived_schedule s.schedule (flow_number s key) said;
              flows = set s.flows (flow_number s key) (arrived_flow target given size (free_place s.common.store) said);
            };
      })
  unfolding arrival arrival_refusal
  arrival-reply = refl

  pub arrival-refused : (r : Refusal) → number_of r ≡ first_refusal rows →
      Arrives s handles sizes clock key handle size ecn u (refused (number_of r)) s handles sizes
  arrival-refused r e =
      let number : first_refusal (rows ++ last) ≡ number_of r = first-refuses rows last (number_of r) (above r) e in
      rw (arrival-reply, number, refused-reply) (refl, refl, refl, refl)

  module _ (passed : first_refusal rows ≡ 0) (flow : ℕ) (f : Flow) (v : Verdict) (el : flow ≡ flow_number s key)
      (ef : f ≡ flow_at s.flows flow)
      (ev : v ≡ verdict_of s.common f size ecn u) where
    past : first_refusal (rows ++ last) ≡ first_refusal last
    past = none-refuses-yet rows last refl (sym passed)

    read : given ≡ f
    read = ap (flow_at s.flows) (sym el) ∙ sym ef

    decided : said ≡ v
    decided = ap (λ g. verdict_of s.common g size ecn u) read ∙ sym ev

    pub arrival-lost : freed_refused s.common sizes v ≡ true →
        Arrives s handles sizes clock key handle size ecn u (refused 9) s handles sizes
    arrival-lost l =
        let number : first_refusal last ≡ 9 = rw (decided, l) in
        rw (arrival-reply, past ∙ number) (refl, refl, refl, refl)

    module _ (place : ℕ) (common : Common) (next : Flow) (flows : List Flow) (l : freed_refused s.common sizes v ≡ false)
        (ep : place ≡ free_place s.common.store) (ec : common ≡ arrived_common s.common sizes clock size v)
        (en : next ≡ arrived_flow target f size place v) (ew : flows ≡ set s.flows flow next) where
      none : first_refusal (rows ++ last) ≡ 0
      none = let number : first_refusal last ≡ 0 = rw (decided, l) in past ∙ number

      pub arrival-dropped : admitted v ≡ false →
          Arrives s handles sizes clock key handle size ecn u (verdict v)
          (record { common = common; schedule = s.schedule; flows = flows }) handles sizes
      unfolding arrived_schedule
      arrival-dropped a = rw (arrival-reply, none, decided, read, ← el, ec, ew, en, ep, a) (refl, refl, refl, refl)

      pub arrival-stored : (schedule : Schedule) (ends : Ends) (handles' sizes' : List ℕ) → admitted v ≡ true →
          schedule ≡ cond (not (is_listed (two_lists s.schedule) flow)) (entered_in s.schedule flow) s.schedule →
          ends ≡ ends_of f →
          handles' ≡ handles_after_put handles place handle → sizes' ≡ sizes_after_put ends f.count sizes place size →
          Arrives s handles sizes clock key handle size ecn u (verdict v)
          (record { common = common; schedule = schedule; flows = flows }) handles' sizes'
      unfolding arrived_schedule
      arrival-stored schedule ends handles' sizes' a es ee eh ez =
          rw (arrival-reply, none, decided, read, ← el, ec, ew, en, eh, ez, ee, ep, es, a) (refl, refl, refl, refl)
