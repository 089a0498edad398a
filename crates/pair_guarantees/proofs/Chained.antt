-- Both queues as chains of one store: what an admitted packet and a departure do to either, and that they leave the other.
use mathlib.Core.Path.{◌≡◌, refl, ap, ◌∙◌}
use mathlib.Core.List.{List, [], ◌∷◌, ◌++◌}
use Prim.Native.Nat.{ℕ, ◌+◌, ◌-◌, ◌<◌}
use native.Mathlib.Omega.{arith}
use lib.ListN.{get_or, length, set}
use Rattle.calls.specs.Packets.{Packet}
use Rattle.store.specs.Following.{followed}
use Rattle.store.specs.Put.{ends_after_put, free_place, handles_after_put, sizes_after_put, store_after_put}
use Rattle.store.specs.Take.{ends_after_take, sizes_after_take, store_after_take}
use Rattle.store_guarantees.specs.Calls.{PutDone, TakeDone}
use Rattle.store_guarantees.specs.Chains.{after_put, after_take, chain_at, contents}
use Rattle.store_guarantees.specs.Sound.{Sound, held}
use Rattle.store_guarantees.proofs.Puts.{put-appends}
use Rattle.store_guarantees.proofs.Takes.{count_held, take-removes}
use Rattle.pair_rules.specs.Queues.{other, own, paired, storing}
use Rattle.pair_rules.specs.declared.State.{State}
use Rattle.pair_rules.specs.declared.Which.{Which}
use Rattle.pair_rules.specs.declared.Which.TheVariants.{Intercom, Passengers}
use Rattle.pair_guarantees.specs.Handed.{Queues, chain_number, chain_of, chains_of, queued}

abbrev pub the_other : Which → Which
the_other Intercom = Passengers
the_other Passengers = Intercom

pub chain-at : (w : Which) (q : Queues) → chain_at (chains_of q) (chain_number w) ≡ chain_of (own w q.pair)
chain-at Intercom q = refl
chain-at Passengers q = refl

pub one_of_two : (w : Which) (q : Queues) → chain_number w < length (chains_of q).chains
one_of_two Intercom q = omega arith
one_of_two Passengers q = omega arith

pub count-queued : (w : Which) (q : Queues) → length (queued w q) ≡ (own w q.pair).backlog.count
count-queued Intercom q = count_held (chains_of q) 0
count-queued Passengers q = count_held (chains_of q) 1

pub held_both : (w : Which) (q : Queues) → held (chains_of q) ≡ (own w q.pair).backlog.count + (other w q.pair).backlog.count
held_both Intercom q = omega arith
held_both Passengers q = omega arith

-- the queues' contents after one chain's are `ps`
pub record Contents (w : Which) (q q' : Queues) (ps : List Packet) : Type 0 where
  pub mine : queued w q' ≡ ps
  pub others : queued (the_other w) q' ≡ queued (the_other w) q

set-contents : (w : Which) (q q' : Queues) (ps : List Packet) →
    contents (chains_of q') ≡ set (contents (chains_of q)) (chain_number w) ps → Contents w q q' ps
set-contents Intercom q q' ps e = record { mine = ap (λ c. get_or c 0 []) e; others = ap (λ c. get_or c 1 []) e }
set-contents Passengers q q' ps e = record { mine = ap (λ c. get_or c 1 []) e; others = ap (λ c. get_or c 0 []) e }

-- ── an admitted packet ──

-- the queues with a packet more, and this state of the called one
abbrev pub with_packet : (w : Which) (q : Queues) (s : State) (handle size : ℕ) → Queues
with_packet w q s handle size =
    let p = q.pair in
    let o = own w p in
    let place = free_place p.shared.store in
    record {
      pair = paired w (storing p.shared (store_after_put p.shared.store q.sizes)) s (other w p);
      handles = handles_after_put q.handles place handle;
      sizes = sizes_after_put o.ends o.backlog.count q.sizes place size;
    }

put-chains : (w : Which) (q : Queues) (s : State) (handle size : ℕ) → let o = own w q.pair in
    s.ends ≡ ends_after_put o.ends o.backlog.count (free_place q.pair.shared.store) →
    s.backlog.count ≡ o.backlog.count + 1 →
    chains_of (with_packet w q s handle size) ≡ after_put (chains_of q) (chain_number w) handle size
put-chains Intercom q s handle size ends count = rw (ends, count)
put-chains Passengers q s handle size ends count = rw (ends, count)

pub record Put (w : Which) (q q' : Queues) (packet : Packet) : Type 0 where
  pub sound : Sound (chains_of q')
  pub contents : Contents w q q' (queued w q ++ packet ∷ [])

pub put-done : (w : Which) (q : Queues) (handle size : ℕ) → Sound (chains_of q) → size < 65536 →
    (own w q.pair).backlog.count + (other w q.pair).backlog.count < q.pair.shared.slots →
    PutDone (chains_of q) (chain_number w) handle size
put-done w q handle size sound small free =
    put-appends (chains_of q) (chain_number w) handle size sound (one_of_two w q) small (rw (held_both w q) free)

pub puts : (w : Which) (q : Queues) (s : State) (handle size : ℕ) → let o = own w q.pair in
    s.ends ≡ ends_after_put o.ends o.backlog.count (free_place q.pair.shared.store) →
    s.backlog.count ≡ o.backlog.count + 1 →
    PutDone (chains_of q) (chain_number w) handle size →
    Put w q (with_packet w q s handle size) (record { handle = handle; size = size })
puts w q s handle size ends count d =
    let same = put-chains w q s handle size ends count in
    record {
      sound = rw same d.sound;
      contents = set-contents w q (with_packet w q s handle size) _ (ap contents same ∙ d.contents);
    }

-- ── a departure ──

abbrev pub without_head : (w : Which) (q : Queues) (s : State) → Queues
without_head w q s =
    let p = q.pair in
    let place = (own w p).ends.head in
    record {
      pair = paired w (storing p.shared (store_after_take p.shared.store place)) s (other w p);
      handles = q.handles;
      sizes = sizes_after_take q.sizes place p.shared.store.freed;
    }

take-chains : (w : Which) (q : Queues) (s : State) → let o = own w q.pair in
    s.ends ≡ ends_after_take o.ends o.backlog.count q.sizes → s.backlog.count ≡ o.backlog.count - 1 →
    chains_of (without_head w q s) ≡ after_take (chains_of q) (chain_number w)
take-chains Intercom q s ends count = rw (ends, count)
take-chains Passengers q s ends count = rw (ends, count)

pub record Take (w : Which) (q q' : Queues) (ps : List Packet) : Type 0 where
  pub sound : Sound (chains_of q')
  pub contents : Contents w q q' ps

pub take_done : (w : Which) (q : Queues) (p : Packet) (ps : List Packet) → Sound (chains_of q) → queued w q ≡ p ∷ ps →
    TakeDone (chains_of q) (chain_number w) p ps
take_done w q p ps sound e = take-removes (chains_of q) (chain_number w) p ps sound (one_of_two w q) e

pub takes : (w : Which) (q : Queues) (s : State) (p : Packet) (ps : List Packet) → let o = own w q.pair in
    s.ends ≡ ends_after_take o.ends o.backlog.count q.sizes → s.backlog.count ≡ o.backlog.count - 1 →
    TakeDone (chains_of q) (chain_number w) p ps → Take w q (without_head w q s) ps
takes w q s p ps ends count d =
    let same = take-chains w q s ends count in
    record {
      sound = rw same d.sound;
      contents = set-contents w q (without_head w q s) ps (ap contents same ∙ d.contents);
    }

-- ── what the moved chains hold ──

pub held-put : (w : Which) (q : Queues) (handle size : ℕ) →
    held (after_put (chains_of q) (chain_number w) handle size) ≡ (own w q.pair).backlog.count + 1 + (other w q.pair).backlog.count
held-put Intercom q handle size = omega arith
held-put Passengers q handle size = omega arith

pub held-take : (w : Which) (q : Queues) →
    held (after_take (chains_of q) (chain_number w)) ≡ (own w q.pair).backlog.count - 1 + (other w q.pair).backlog.count
held-take Intercom q = omega arith
held-take Passengers q = omega arith

pub head-taken : (w : Which) (q : Queues) → let s = own w q.pair in
    (chain_at (after_take (chains_of q) (chain_number w)) (chain_number w)).ends.head ≡ followed q.sizes s.ends.head s.backlog.count
head-taken Intercom q = refl
head-taken Passengers q = refl

-- nothing moves where ends and count stay
pub still-chains : (w : Which) (q : Queues) (s : State) → s.ends ≡ (own w q.pair).ends → s.backlog ≡ (own w q.pair).backlog →
    chains_of (record { pair = paired w q.pair.shared s (other w q.pair); handles = q.handles; sizes = q.sizes }) ≡ chains_of q
still-chains Intercom q s ends backlog = rw (ends, backlog)
still-chains Passengers q s ends backlog = rw (ends, backlog)
