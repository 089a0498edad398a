-- What holds of two queues over one pair of tables, over lists of calls. Each claim stands in a file of its own; proofs/ proves it.
--
--   Calls                 calls on two queues; one queue's own calls, with anything else lent to each
--   Shedding              either queue as a kind of queue that sheds load by PIE
--   Refusals              demand 1: refused by the lowest number that applies, and then nothing changes
--   OwnStateAlone         a verdict reads the queue's own state alone, but for rule 2
--   AllowanceLasts        question 2: an allowance lasts its tick periods, whatever ticks are tried
--   Grace                 question 2: so a full one lasts 150 ms after a tick that fills it
--   FreshGrace            question 2: and after fresh
--   Recovery              demand 3 and question 4: 1,000 ticks on an empty queue, and 150 ms with no early verdict
--   RecoveryByTarget      Q-13: as many ticks suffice as `ticks_to_recover` says of the target
--   ShorterRecovery       Q-13: 300 suffice at a target of 15,000 or more
--   EarlyAtLeastApart     Q-3: at least 0.85 is added after one early verdict, up to and with a later one
--   EarlyAtMostApart      Q-3: less than 8.5 is added while no early verdict comes
--   MeasuredWhileQueued   Q-6: wherever a measurement runs, a packet is queued
--   NeverGivenUp          Q-6: from fresh, a measurement ends before the queue empties, or as it does
--   BothQueues            of a list of both queues' calls, those on one queue are a list of its own calls
--   BothRecover           demand 3 for each queue in such a list
--
-- From a fresh pair, with everything handed back untouched, for either queue:
--
--   Handed            the records and tables of both queues, handed back at each call, and what one queue's calls admitted and handed out
--   FirstInFirstOut   for each queue: admitted = departed, then queued, in order
--   Conservation      for each queue: queued bytes = bytes admitted − bytes departed; refusals 2 and 9 are never given
--   Isolation         while its count is below its reserve at its arrivals, a queue's answers depend on its own calls alone
--   AsRing            and are those of the ring queue with the reserve for its slots
pub mod WhichVerdict
pub mod Kept
pub mod Calls
pub mod Shedding
pub mod Refusals
pub mod OwnStateAlone
pub mod AllowanceLasts
pub mod Grace
pub mod FreshGrace
pub mod Recovery
pub mod RecoveryByTarget
pub mod ShorterRecovery
pub mod EarlyAtLeastApart
pub mod EarlyAtMostApart
pub mod MeasuredWhileQueued
pub mod NeverGivenUp
pub mod BothQueues
pub mod BothRecover
pub mod Handed
pub mod FirstInFirstOut
pub mod Conservation
pub mod Isolation
pub mod AsRing
