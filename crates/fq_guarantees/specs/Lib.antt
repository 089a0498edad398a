-- What holds of 64 flows over one pair of tables, over lists of calls. Each claim stands in a file of its own; proofs/ proves it.
--
--   Calls                 what 64 flows are asked
--   Acceptance            the number that refuses a call, and the reply where none does
--   SixtyFour             a record of 64 flows, which every call keeps
--   Lists                 lists of calls on such a record
--   Shedding              each flow as a kind of queue that sheds load by PIE
--   Refusals              demand 1: refused by the lowest number that applies, and then nothing changes
--   Kept                  23 is kept by every call
--   NeverMalformed        refusal 2 is never given from fresh on
--   ServesQueued          26: where a packet is queued, choosing ends at a listed flow that has one
--   AsStretch             each call moves counts, lists and deficits as an arrival, a departure or nothing
--   Fairness              two flows that have packets are handed out the same bytes, but for two largest packets and two quanta
--   FairnessBySize        the same with smaller packets
--   FairnessFromFresh     the same after any calls from fresh
--   NeverStarved          a flow that has packets is handed out at least half as much as any other, but for a constant
--   NeverStarvedFromFresh  the same with smaller packets, after any calls from fresh
--   OwnFlowAlone          a verdict reads the arrival's own flow alone, but for rules 1 and 2
--   AllowanceLasts        question 2: a flow's allowance lasts its tick periods, whatever ticks are tried
--   Grace                 question 2: so a full one lasts 150 ms after a tick that fills it
--   FreshGrace            question 2: and after fresh
--   Recovery              demand 3 and question 4: 1,000 ticks on an empty flow, and 150 ms with no early verdict
--   RecoveryByTarget      Q-13: as many ticks suffice as `ticks_to_recover` says of the target
--   ShorterRecovery       Q-13: 300 suffice at a target of 15,000 or more
--   EarlyAtLeastApart     Q-3: at least 0.85 is added after one early verdict of a flow, up to and with a later one
--   EarlyAtMostApart      Q-3: less than 8.5 is added while a flow has no early verdict
--   MeasuredWhileQueued   Q-6: wherever a measurement of a flow runs, a packet of it is queued
--   NeverGivenUp          Q-6: from fresh, a measurement ends before the flow empties, or as it does
--
-- From a fresh record, with everything handed back untouched, for every flow:
--
--   Handed            the record and both tables, handed back at each call, and what the calls admitted and handed out, by flow
--   FirstInFirstOut   for each flow: admitted = departed, then queued, in order
--   Conservation      for each flow, and for all together: bytes = bytes admitted − bytes departed; refusals 2 and 9 are never given
--   Example           two flows, from a fresh record
pub mod WhichVerdict
pub mod Calls
pub mod Acceptance
pub mod SixtyFour
pub mod Lists
pub mod Shedding
pub mod Refusals
pub mod Kept
pub mod NeverMalformed
pub mod ServesQueued
pub mod AsStretch
pub mod Fairness
pub mod FairnessBySize
pub mod FairnessFromFresh
pub mod NeverStarved
pub mod NeverStarvedFromFresh
pub mod OwnFlowAlone
pub mod AllowanceLasts
pub mod Grace
pub mod FreshGrace
pub mod Recovery
pub mod RecoveryByTarget
pub mod ShorterRecovery
pub mod EarlyAtLeastApart
pub mod EarlyAtMostApart
pub mod MeasuredWhileQueued
pub mod NeverGivenUp
pub mod Handed
pub mod FirstInFirstOut
pub mod Conservation
pub mod Example
