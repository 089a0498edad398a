-- What a call leaves in the words: all that it was lent where it is refused, and the record that it returns where it is not.
use mathlib.Core.Path.{◌≡◌, refl, ap, sym, ◌∙◌}
use mathlib.Core.Bool.{Bool, true, false, false≢true}
use mathlib.Core.List.{List}
use Prim.Native.Nat.{ℕ, zero, suc, ◌+◌}
use lib.ListN.{length}
use Rattle.schedule.specs.declared.Lists.{Lists}
use Rattle.fq_state.specs.State.{State}
use Rattle.fq_words.specs.Words.{state_of}
use Rattle.fq_state.specs.declared.Common.{Common}
use Rattle.fq_words.specs.Written.{flow_words}
use Rattle.fq_words.proofs.Words.{words_are}
use Rattle.fq_rules.specs.Answer.{Answer, Reply, departed, refused, ticked, unless_refused, verdict}
use Rattle.fq_words.specs.Codes.{code_of, common_after, deficits_after, flows_after, order_after, words_for, words_of}
use Rattle.fq_words.specs.Written.{common_words}

abbrev pub is_refusal : Answer → Bool
is_refusal (refused n) = true
is_refusal (verdict v) = false
is_refusal (departed flow handle size) = false
is_refusal ticked = false

-- a refused call returns the record that it was given
pub kept : (number : ℕ) (given : State) (accepted : Reply) (n : ℕ) → is_refusal accepted.answer ≡ false →
    (unless_refused number given accepted).answer ≡ refused n → (unless_refused number given accepted).state ≡ given
kept zero given accepted n h e = absurd (false≢true (sym h ∙ ap is_refusal e))
kept (suc k) given accepted n h e = refl

-- the parts of a record that a call returned
pub record Parts (common : Common) (lists : Lists) (order deficits flows : List ℕ) (s : State) : Type 0 where
  pub words : common_words common lists ≡ words_of s
  pub order_is : order ≡ s.schedule.order
  pub deficits-are : deficits ≡ s.schedule.deficits
  pub flows-are : flows ≡ flow_words s.flows

pub parts : (common : Common) (lists : Lists) (order deficits flows : List ℕ) (s : State) → length flows ≡ 768 →
    state_of common lists order deficits flows ≡ s → Parts common lists order deficits flows s
parts common lists order deficits flows s long e =
    record {
      words = ap words_of e;
      order_is = ap (λ (t : State). t.schedule.order) e;
      deficits-are = ap (λ (t : State). t.schedule.deficits) e;
      flows-are = sym (words_are flows long) ∙ ap (λ (t : State). flow_words t.flows) e;
    }

-- ── the words after a call ──

pub record Leaves (a : Reply) (code : ℕ) (common order deficits flows common' order' deficits' flows' : List ℕ) : Type 0 where
  pub code_is : code ≡ code_of a.answer
  pub common-is : common' ≡ common_after a common
  pub order_is : order' ≡ order_after a order
  pub deficits-are : deficits' ≡ deficits_after a deficits
  pub flows-are : flows' ≡ flows_after a flows

returned-of : (answer : Answer) (words returned : List ℕ) → is_refusal answer ≡ false → words_for answer words returned ≡ returned
returned-of (refused n) words returned e = absurd (false≢true (sym e))
returned-of (verdict v) words returned e = refl
returned-of (departed flow handle size) words returned e = refl
returned-of ticked words returned e = refl

left-of : (answer : Answer) (n : ℕ) (words returned : List ℕ) → answer ≡ refused n → words_for answer words returned ≡ words
left-of answer n words returned e = ap (λ (b : Answer). words_for b words returned) e

module _ (a : Reply) (code : ℕ) (common : Common) (lists : Lists) (words order deficits flows order' deficits' flows' : List ℕ)
    (long : length flows' ≡ 768) (returned : state_of common lists order' deficits' flows' ≡ a.state) where
  abbrev after : Parts common lists order' deficits' flows' a.state
  after = parts common lists order' deficits' flows' a.state long returned

  pub accepted : (words' : List ℕ) (answer : Answer) → a.answer ≡ answer → is_refusal answer ≡ false → code ≡ code_of answer →
      words' ≡ common_words common lists → Leaves a code words order deficits flows words' order' deficits' flows'
  accepted words' answer told other is written =
      let given = ap is_refusal told ∙ other in
      record {
        code_is = is ∙ ap code_of (sym told);
        common-is = written ∙ after.words ∙ sym (returned-of a.answer words (words_of a.state) given);
        order_is = after.order_is ∙ sym (returned-of a.answer order a.state.schedule.order given);
        deficits-are = after.deficits-are ∙ sym (returned-of a.answer deficits a.state.schedule.deficits given);
        flows-are = after.flows-are ∙ sym (returned-of a.answer flows (flow_words a.state.flows) given);
      }

  module _ (lent-common : Common) (lent-lists : Lists) (lent-long : length flows ≡ 768) (number : ℕ) (given : a.answer ≡ refused number)
      (same : a.state ≡ state_of lent-common lent-lists order deficits flows) where
    pub not-accepted : code ≡ 100 + number → Leaves a code words order deficits flows words order' deficits' flows'
    not-accepted is =
        record {
          code_is = is ∙ ap code_of (sym given);
          common-is = sym (left-of a.answer number words (words_of a.state) given);
          order_is =
              after.order_is
              ∙ ap (λ (t : State). t.schedule.order) same
              ∙ sym (left-of a.answer number order a.state.schedule.order given);
          deficits-are =
              after.deficits-are
              ∙ ap (λ (t : State). t.schedule.deficits) same
              ∙ sym (left-of a.answer number deficits a.state.schedule.deficits given);
          flows-are =
              after.flows-are
              ∙ ap (λ (t : State). flow_words t.flows) same
              ∙ words_are flows lent-long
              ∙ sym (left-of a.answer number flows (flow_words a.state.flows) given);
        }
