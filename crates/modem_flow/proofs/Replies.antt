-- What a reply's answer tells: a refusal's number is above 0, and a verdict is no refusal.
use mathlib.Core.Path.{◌≡◌, refl}
use mathlib.Core.Bool.{Bool, true, false}
use mathlib.Core.List.{List, [], ◌∷◌}
use Rattle.std.specs.Prelude.{cond, Ok, ⊤}
use Prim.Native.Nat.{ℕ, zero, suc}
use native.Mathlib.Omega.{arith}
use lib.ListN.{length}
use Rattle.pie.specs.declared.Verdict.{Verdict}
use Rattle.refusals.specs.Answer.{refused, refused_where, verdict}
use Rattle.refusals.specs.Numbers.{number_of, refusal_in}
use Rattle.refusals.specs.Rows.{first_refusal}
use Rattle.docsis_pie.specs.declared.Decided.{Decided}
use Rattle.modem_flow.specs.Answer.{Reply, unless_refused}
use Rattle.modem_flow.specs.Arrival.{arrival, arrival_refusal, arrived_state, decision_of}
use Rattle.refusals.specs.declared.Refusal.{Refusal}
use Rattle.refusals.specs.declared.Refusal.TheVariants.{Settings, Malformed, Tables, Clock, TooSoon, Empty, Size, Counts, Head}
use Rattle.modem_flow.specs.declared.State.{State}

pub refused_reply : (r : Refusal) (given : State) (accepted : Reply) →
    unless_refused (number_of r) given accepted ≡ record { answer = refused (number_of r); state = given }
refused_reply Settings given accepted = refl
refused_reply Malformed given accepted = refl
refused_reply Tables given accepted = refl
refused_reply Clock given accepted = refl
refused_reply TooSoon given accepted = refl
refused_reply Empty given accepted = refl
refused_reply Size given accepted = refl
refused_reply Counts given accepted = refl
refused_reply Head given accepted = refl

-- a test that gives no refusal fails
pub passed : (test : Bool) (r : Refusal) (x : ⊤) → refused_where test r ≡ Ok x → test ≡ false
passed true r x e = absurd cc
passed false r x e = refl

-- what the two tests of a head give, as rows
pub heads : (empty wrong : Bool) →
    refusal_in (cond empty (refused_where empty Empty) (refused_where wrong Head)) ≡ first_refusal ((6, empty) ∷ (9, wrong) ∷ [])
heads true wrong = refl
heads false true = refl
heads false false = refl

-- an arrival that is answered with a verdict was not refused: the verdict and the state are those of the rules
pub decided : (s : State) (row handles sizes : List ℕ) (clock size u : ℕ) (v : Verdict) →
    let reply = arrival s row handles sizes clock size u in
    let d = decision_of s size u in
    reply.answer ≡ verdict v →
    (arrival_refusal s row (length handles) (length sizes) clock size ≡ 0) × (d.verdict ≡ v) × (reply.state ≡ arrived_state s clock size d)
unfolding arrival
decided s row handles sizes clock size u v = go (arrival_refusal s row (length handles) (length sizes) clock size) refl
  where
    d : Decided
    d = decision_of s size u

    r : Reply
    r = record { answer = verdict d.verdict; state = arrived_state s clock size d }

    go : (n : ℕ) → arrival_refusal s row (length handles) (length sizes) clock size ≡ n → (unless_refused n s r).answer ≡ verdict v →
        (n ≡ 0) × (d.verdict ≡ v) × ((unless_refused n s r).state ≡ arrived_state s clock size d)
    go zero e f = (refl, cc, refl)
    go (suc n) e f = let z : ◌≡◌ {A = ℕ} 0 1 = cc in absurd (omega arith)
