-- Since a flow's last accepted fresh call the ledger and what the modem holds of the flow are a run from a fresh flow.
use mathlib.Core.Path.{◌≡◌, refl, sym, ap, ◌∙◌}
use mathlib.Core.Bool.{Bool, true, false, cond, false≢true}
use mathlib.Core.List.{List, [], ◌∷◌, ◌++◌, foldl, foldl-append}
use Prim.Native.Nat.{ℕ, ◌≤◌}
use lib.Dec.{eqb}
use lib.ListN.{length}
use Rattle.calls.specs.Handed as general
use Rattle.calls.specs.Parts.{Does, another, own}
use Rattle.calls.specs.Traces.{entry, trace}
use Rattle.refusals.specs.Answer.{Answer, departed, made, refused, ticked, verdict}
use Rattle.modem_flow.specs.Fresh.{fresh}
use Rattle.modem_flow.specs.declared.Settings.{Settings}
use Rattle.modem.specs.Asked.{Asked, Request, ask, start}
use Rattle.modem_guarantees.specs.EveryFlow.{Accounted, EveryFlow, Ledger, blank, entered, is_made, noted}
use Rattle.modem_guarantees.specs.Handed.{Queue, Run, answer_of, flow_queue, fresh_queue, row_after, run}
use Rattle.modem_guarantees.specs.Modem.{Call, Modem, alone_after, alone_reply, flow_part, modem, modem_after, reply_to, view}
use Rattle.modem_guarantees.proofs.OwnFlow.{all-sixteen, flow-does, own-answer, sixteen-rows}
use Rattle.modem_guarantees.proofs.Conservation.{conservation}
use Rattle.modem_guarantees.proofs.FirstInFirstOut.{first-in-first-out}

-- a flow with its ledger, as a run
abbrev run_of : Ledger → Queue → Run
run_of l q = record { queue = q; admitted = l.admitted; departed = l.departed; answers = l.answers }

-- the fresh call that began it, and what was asked since
record Since (l : Ledger) (q : Queue) : Type 0 where
  settings : Settings
  clock : ℕ
  handles : List ℕ
  sizes : List ℕ
  requests : List Request
  accepted : (fresh settings clock).answer ≡ made
  same : run_of l q ≡ run settings clock handles sizes requests

abbrev begun : {l : Ledger} {q : Queue} → Since l q → Run
begun s = general.begin flow_queue (fresh_queue s.settings s.clock s.handles s.sizes)

-- where the last fresh call was accepted
abbrev Known : Ledger → Queue → Type 0
Known l q = l.begun ≡ true → Since l q

is_made_lem : (a : Answer) → is_made a ≡ true → a ≡ made
is_made_lem (refused number) e = absurd (false≢true e)
is_made_lem made e = refl
is_made_lem (verdict v) e = absurd (false≢true e)
is_made_lem (departed handle size) e = absurd (false≢true e)
is_made_lem ticked e = absurd (false≢true e)

-- ── one call of the flow, alone ──

next_known : (l : Ledger) (q : Queue) (asked : Asked) → Known l q →
    Known (noted l asked (alone_reply q asked).answer) (alone_after q asked)
next_known l q (start settings clock) known b =
    let accepted : (fresh settings clock).answer ≡ made = is_made_lem (fresh settings clock).answer b in
    record {
      settings = settings;
      clock = clock;
      handles = q.handles;
      sizes = q.sizes;
      requests = [];
      accepted = accepted;
      same =
          ap (λ (a : Answer). run_of blank (record {
            state = (fresh settings clock).state;
            row = row_after a q.row;
            handles = q.handles;
            sizes = q.sizes;
          })) accepted;
    }
next_known l q (ask r) known b =
    let s = known b in
    record {
      settings = s.settings;
      clock = s.clock;
      handles = s.handles;
      sizes = s.sizes;
      requests = s.requests ++ r ∷ [];
      accepted = s.accepted;
      same =
          ap (λ (x : Run). general.step flow_queue x r) s.same
          ∙ sym (foldl-append (general.step flow_queue) (begun s) s.requests (r ∷ []));
    }

-- ── one call of the modem ──

module _ (flow : ℕ) (h : flow ≤ 15) where
  call_known : (l : Ledger) (m : Modem) (c : Call) → length m.counts ≡ 16 → Known l (view flow m) →
      Known (entered flow l (entry modem m c)) (view flow (modem_after m c))
  call_known l m c rows known = go (eqb flow c.flow) (flow-does flow h m c rows)
    where
      go : (b : Bool) → Does (flow_part flow) m c (cond b (own c.asked) another) →
          Known (cond b (noted l c.asked (reply_to m c).answer) l) (view flow (modem_after m c))
      go true does = rw (does.0, does.1) (next_known l (view flow m) c.asked known)
      go false same = rw same known

  calls-known : (l : Ledger) (m : Modem) (calls : List Call) → length m.counts ≡ 16 → Known l (view flow m) →
      Known (foldl (entered flow) l (trace modem m calls)) (view flow (foldl modem_after m calls))
  calls-known l m [] rows known = known
  calls-known l m (c ∷ calls) rows known =
      calls-known (entered flow l (entry modem m c)) (modem_after m c) calls (sixteen-rows m c rows) (call_known l m c rows known)

  -- ── the claim ──

  asked-alone : (m : Modem) (r : Request) → length m.counts ≡ 16 →
      (reply_to m (record { flow = flow; asked = ask r })).answer ≡ answer_of (view flow m) r
  asked-alone m r rows = own-answer flow h m (ask r) rows

  accounted : (l : Ledger) (m : Modem) → length m.counts ≡ 16 → Since l (view flow m) → Accounted flow l m
  accounted l m rows s =
      let k = rw (← s.same) at (conservation s.settings s.clock s.handles s.sizes s.requests s.accepted) in
      record {
        order = rw (← s.same) at (first-in-first-out s.settings s.clock s.handles s.sizes s.requests s.accepted);
        bytes = k.bytes;
        bytes-cover = k.bytes-cover;
        count = k.count;
        count-cover = k.count-cover;
        verdicts = k.verdicts;
        marked = k.marked;
        never-2 = λ r e. k.never-2 r (sym (asked-alone m r rows) ∙ e);
        never-9 = λ r e. k.never-9 r (sym (asked-alone m r rows) ∙ e);
      }

pub every-flow : EveryFlow
every-flow m calls rows flow h b =
    accounted flow h _ _ (all-sixteen m calls rows) (calls-known flow h blank m calls rows (λ e. absurd (false≢true e)) b)
