-- An accepted arrival on a well-formed record of 64 flows returns a well-formed one.
use mathlib.Core.Path.{◌≡◌, refl, sym, ap, ◌∙◌}
use mathlib.Core.Bool.{Bool, true, false, cond, ◌&&◌}
use mathlib.Core.List.{List}
use Prim.Native.Nat.{ℕ, ◌+◌, ◌≤◌, ◌<◌}
use native.Mathlib.Omega.{arith}
use borrow.Author.Tests.{leb-false, leb-true}
use lib.Dec.{leb}
use lib.ListN.{length, length-set, set}
use Rattle.laws.specs.Tests.{all}
use Rattle.laws.proofs.Choice.{at-cond}
use Rattle.pie.specs.Backlog.{entered}
use Rattle.pie.specs.Verdicts.{admitted, total}
use Rattle.pie.specs.declared.Backlog.{Backlog}
use Rattle.pie.specs.declared.Verdict.{Verdict}
use Rattle.pie.proofs.Counts.{total-raised}
use Rattle.refusals.specs.Rows.{first_refusal}
use Rattle.schedule_guarantees.specs.KeptInRing as lists
use Rattle.store.specs.Following.{link_refused}
use Rattle.store.specs.Put.{free_place, store_after_put}
use Rattle.store.specs.declared.Store.{Store}
use Rattle.fq_state.specs.Flow.{empty_flow, flow_with}
use Rattle.fq_state.specs.State.{State, bytes_of, count_of, counts_of, each_bytes, flow_at}
use Rattle.fq_state.specs.declared.Common.{Common}
use Rattle.fq_state.specs.declared.Flow.{Flow}
use Rattle.fq_rules.specs.Arrival.{arrived_common, arrived_flow, arrived_schedule, flow_number, freed_refused, verdict_of}
use Rattle.fq_guarantees.specs.Acceptance.{acceptance}
use Rattle.fq_guarantees.specs.Calls.{Call, arrive}
use Rattle.fq_guarantees.specs.Kept.{Sound}
use Rattle.fq_guarantees.specs.Refusals.{rows_of}
use Rattle.fq_state.proofs.Facts.{CommonFits}
use Rattle.fq_guarantees.proofs.Facts.{Facts, well-formed}
use Rattle.fq_guarantees.proofs.FlowKept.{followed-fits}
use Rattle.fq_guarantees.proofs.Flows.{total-set}
use Rattle.fq_guarantees.proofs.OneFlow.{Room, flow-low, room}
use Rattle.fq_guarantees.proofs.WhenAccepted.{ArrivalAccepted}
use Rattle.fq_guarantees.proofs.WhenAccepted.{arrival-accepted}
use Rattle.fq_guarantees.proofs.PartsKept.{arrived-lists, flows-kept, lists-sound}

-- the store and the backlog, where a packet is put
record Held (slots buffer : ℕ) (b : Backlog) (s : Store) : Type 0 where
  freed-high : s.freed < slots
  used_high : s.used ≤ slots
  used-is : b.count + s.spare ≡ s.used
  bytes_fit : b.bytes.0 ≤ buffer

put-held : (c : Common) (sizes : List ℕ) (size : ℕ) → CommonFits c → c.backlog.count < c.settings.slots →
    c.backlog.bytes.0 + size ≤ c.settings.buffer.0 →
    link_refused c.settings.slots sizes c.store.freed c.store.spare ≡ false →
    Held c.settings.slots c.settings.buffer.0 (entered c.backlog size) (store_after_put c.store sizes)
unfolding store_after_put
put-held c sizes size k free fits link =
    at-cond (Held c.settings.slots c.settings.buffer.0 (entered c.backlog size)) (leb 1 c.store.spare)
    (λ some.
    let one = leb-true 1 c.store.spare some in
    record {
      freed-high = followed-fits c.settings.slots sizes c.store.freed c.store.spare k.freed-high link;
      used_high = k.used_high;
      used-is = omega (arith, k.used-is);
      bytes_fit = fits;
    })
    (λ none.
    let no = leb-false 1 c.store.spare none in
    record {
      freed-high = k.freed-high;
      used_high = omega (arith, k.used-is);
      used-is = omega (arith, k.used-is);
      bytes_fit = fits;
    })

arrived-held : (s : State) (sizes : List ℕ) (size : ℕ) (v : Verdict) (f : Flow) → Facts s →
    (admitted v ≡ true → Room s f size) → freed_refused s.common sizes v ≡ false →
    Held s.common.settings.slots s.common.settings.buffer.0
    (cond (admitted v) (entered s.common.backlog size) s.common.backlog)
    (cond (admitted v) (store_after_put s.common.store sizes) s.common.store)
arrived-held s sizes size v f k finds link = go (admitted v) finds link
  where
    c : Common
    c = s.common

    go : (t : Bool) → (t ≡ true → Room s f size) →
        t && link_refused c.settings.slots sizes c.store.freed c.store.spare ≡ false →
        Held c.settings.slots c.settings.buffer.0 (cond t (entered c.backlog size) c.backlog)
        (cond t (store_after_put c.store sizes) c.store)
    go true r l = put-held c sizes size k.common (r refl).count_low (r refl).bytes_low l
    go false r l =
        record {
          freed-high = k.common.freed-high;
          used_high = k.common.used_high;
          used-is = k.common.used-is;
          bytes_fit = k.totals.bytes_fit;
        }

-- the totals grow by what is put
grown : (t : Bool) (all own : ℕ) (size after : ℕ) → after + own ≡ all + cond t (own + size) own → after ≡ cond t (all + size) all
grown true all own size after e = omega arith
grown false all own size after e = omega arith

backlog-count : (t : Bool) (b : Backlog) (size : ℕ) → (cond t (entered b size) b).count ≡ cond t (b.count + 1) b.count
backlog-count true b size = refl
backlog-count false b size = refl

backlog-bytes : (t : Bool) (b : Backlog) (size : ℕ) → (cond t (entered b size) b).bytes.0 ≡ cond t (b.bytes.0 + size) b.bytes.0
backlog-bytes true b size = refl
backlog-bytes false b size = refl

pub arrived-count : (target : ℕ) (f : Flow) (size place : ℕ) (v : Verdict) →
    (arrived_flow target f size place v).count ≡ cond (admitted v) (f.count + 1) f.count
unfolding arrived_flow flow_with
arrived-count target f size place v = backlog-count (admitted v) _ size

arrived-bytes : (target : ℕ) (f : Flow) (size place : ℕ) (v : Verdict) →
    (arrived_flow target f size place v).bytes ≡ cond (admitted v) (f.bytes + size) f.bytes
unfolding arrived_flow flow_with
arrived-bytes target f size place v = backlog-bytes (admitted v) _ size

pub arrived-sound : (s : State) (h : Sound s) (handles sizes : List ℕ) (clock : ℕ) (key : List ℕ) (handle size : ℕ) (ecn : Bool) (u : ℕ) →
    let c = arrive handles sizes clock key handle size ecn u in
    first_refusal (rows_of s c) ≡ 0 → Sound (acceptance s c).state
unfolding arrived_common
arrived-sound s h handles sizes clock key handle size ecn u e =
    record {
      flows_long = long;
      order-long = listed.order-long;
      deficits-long = listed.deficits-long;
      formed =
          well-formed (acceptance s call).state (record {
            common =
                record {
                  settings = k.common.settings;
                  last-high = omega (arith, k.common.last-high, a.clock-low);
                  clock-high = a.clock-high;
                  freed-high = held.freed-high;
                  used_high = held.used_high;
                  used-is = held.used-is;
                  total-high = omega (arith, total-raised s.common.verdicts v, a.total-low);
                };
            flows = flows-kept s h call e long;
            totals =
                record {
                  counts-are =
                      grown (admitted v) (total (counts_of s.flows)) f.count 1 (total (counts_of (set s.flows g x)))
                      (total-set count_of s.flows g x (empty_flow 0) below
                      ∙ ap (λ n. total (counts_of s.flows) + n) (arrived-count target f size place v))
                      ∙ rw k.totals.counts-are (sym (backlog-count (admitted v) s.common.backlog size));
                  bytes-are =
                      grown (admitted v) (total (each_bytes s.flows)) f.bytes size (total (each_bytes (set s.flows g x)))
                      (total-set bytes_of s.flows g x (empty_flow 0) below
                      ∙ ap (λ n. total (each_bytes s.flows) + n) (arrived-bytes target f size place v))
                      ∙ rw k.totals.bytes-are (sym (backlog-bytes (admitted v) s.common.backlog size));
                  bytes_fit = held.bytes_fit;
                };
            listed = listed.well;
          });
    }
  where
    call : Call
    call = arrive handles sizes clock key handle size ecn u

    g : ℕ
    g = flow_number s key

    f : Flow
    f = flow_at s.flows g

    v : Verdict
    v = verdict_of s.common f size ecn u

    target : ℕ
    target = s.common.settings.target.0

    place : ℕ
    place = free_place s.common.store

    x : Flow
    x = arrived_flow target f size place v

    a : ArrivalAccepted s (length handles) sizes clock size v
    a = arrival-accepted s (length handles) sizes clock key size ecn u e

    k : Facts s
    k = a.known

    long : length (set s.flows g x) ≡ 64
    long = length-set s.flows g x ∙ h.flows_long

    below : g < length s.flows
    below = omega (arith, flow-low s key, h.flows_long)

    held : Held s.common.settings.slots s.common.settings.buffer.0
        (cond (admitted v) (entered s.common.backlog size) s.common.backlog)
        (cond (admitted v) (store_after_put s.common.store sizes) s.common.store)
    held = arrived-held s sizes size v f k (room s g size ecn u k h.flows_long (flow-low s key)) a.link

    listed : lists.SoundRing (counts_of (set s.flows g x)) (arrived_schedule s.schedule g v)
    listed =
        arrived-lists s.flows s.schedule g v x (lists-sound s h) (flow-low s key) (arrived-count target f size place v)
