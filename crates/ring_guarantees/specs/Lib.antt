-- What holds of every list of calls. Each claim stands in a file of its own; proofs/ proves it.
--
--   demand 1     Refusals          any call on any state: refused by the lowest number that applies, and then nothing changes
--   demand 2     FirstInFirstOut   from fresh: admitted = departed, then queued, in order
--   demand 3     Recovery          1,000 ticks on an empty queue: probability 0, and 150 ms with no early verdict
--   question 1   WhichVerdict      each of the five verdicts is given exactly when the rules ask for it
--   question 2   AllowanceLasts    an allowance lasts its tick periods, rounded up, from the last tick on, whatever ticks are tried
--   question 2   Grace             so a full one lasts 150 ms after a tick that fills it
--   question 2   FreshGrace        and after fresh
--   question 3   Conservation      queued bytes = bytes admitted − bytes departed; refusals 2 and 9 are never given
--   question 4   Recovery          how long the queue goes on dropping once a crowd has left
--   Q-13         RecoveryByTarget  as many ticks suffice as `ticks_to_recover` says of the target
--   Q-13         ShorterRecovery   300 suffice at a target of 15,000 or more
--   Q-3          Spacing           the probability that arrivals add between early verdicts
--   Q-3          EarlyAtLeastApart   at least 0.85 is added after one early verdict, up to and with a later one
--   Q-3          EarlyAtMostApart   less than 8.5 is added while no early verdict comes
--   Q-6          MeasuredWhileQueued   wherever a measurement runs, a packet is queued
--   Q-6          NeverGivenUp      from fresh, a measurement ends before the queue empties, or as it does
--   Q-12         StaysInactive     an inactive queue that is never more than a third full stays so, and sheds by rules 1 and 2 alone
--   Q-12         TurnsInactive     1,000 ticks on an empty queue: a calm queue is inactive again
--   Q-12         BeforeProfiles    the ring queue by the rules before profiles
--   Q-12         PlainAsBefore     the plain profile answers by them
--
-- That the library's calls give these answers, states and tables is promised by the functions themselves (crate ring).
pub mod Calls
pub mod Handed
pub mod Refusals
pub mod WhichVerdict
pub mod AllowanceLasts
pub mod Grace
pub mod FreshGrace
pub mod Recovery
pub mod RecoveryByTarget
pub mod ShorterRecovery
pub mod FirstInFirstOut
pub mod Conservation
pub mod MeasuredWhileQueued
pub mod NeverGivenUp
pub mod Spacing
pub mod EarlyAtLeastApart
pub mod EarlyAtMostApart
pub mod StaysInactive
pub mod TurnsInactive
pub mod BeforeProfiles
pub mod PlainAsBefore
