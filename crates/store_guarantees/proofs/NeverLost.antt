-- No call on sound chains is refused for a link.
use mathlib.Core.Path.{◌≡◌, refl, ap, sym, ◌∙◌}
use mathlib.Core.Bool.{Bool, true, false, true≢false}
use mathlib.Core.Logic.{◌≢◌}
use mathlib.Core.List.{List, [], ◌∷◌}
use Prim.Native.Nat.{ℕ}
use lib.ListN.{get_or, length, length-replicate}
use Rattle.calls.specs.Packets.{Packet}
use Rattle.laws.specs.Every.{Every}
use Rattle.store_guarantees.specs.AsLists.{all_held, head_outcome, list_outcome}
use Rattle.store_guarantees.specs.Chains.{Chains, empty_chain, fresh_chains}
use Rattle.store_guarantees.specs.NeverLost.{NeverLost}
use Rattle.store_guarantees.specs.Requests.{AllProper, Outcome, Request, after, empty, full, lost, outcomes, put, stored, take, taken}
use Rattle.store_guarantees.specs.Sound.{Sound}
use Rattle.store_guarantees.proofs.AsLists.{proper-still, refines}
use Rattle.store_guarantees.proofs.Fresh.{fresh-sound}

abbrev found : Outcome → Bool
found stored = true
found (taken p) = true
found full = true
found empty = true
found lost = false

head-found : (ps : List Packet) → found (head_outcome ps) ≡ true
head-found [] = refl
head-found (p ∷ ps) = refl

list-found : (slots : ℕ) (lists : List (List Packet)) (q : Request) → found (list_outcome slots lists q) ≡ true
list-found slots lists (put i handle size) = go (all_held slots lists) refl
  where
    go : (b : Bool) → all_held slots lists ≡ b → found (list_outcome slots lists (put i handle size)) ≡ true
    go true e = rw e
    go false e = rw e
list-found slots lists (take i) = head-found (get_or lists i [])

not-lost : (o : Outcome) → found o ≡ true → o ≢ lost
not-lost o e z = true≢false (sym e ∙ ap found z)

never-lost-from : (h : Chains) (qs : List Request) → Sound h → AllProper (length h.chains) qs → Every (λ o. o ≢ lost) (outcomes h qs)
never-lost-from h [] s a = tt
never-lost-from h (q ∷ qs) s (a, others) =
    let r = refines h q s a in (
      not-lost _ (rw r.outcome (list-found h.slots _ q)),
      never-lost-from (after h q) qs r.sound (proper-still _ _ qs r.chains others),
    )

pub never-lost : NeverLost
never-lost slots n handles sizes requests low high lh ls a =
    let f = fresh-sound slots n handles sizes low high lh ls in
    never-lost-from (fresh_chains slots n handles sizes) requests f.0 (proper-still _ n requests (length-replicate n empty_chain) a)
