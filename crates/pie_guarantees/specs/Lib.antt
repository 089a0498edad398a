-- What holds over lists of calls of every kind of queue that sheds load by PIE (a `Shedding` that `Sheds`), whatever else its states hold
-- and its calls are given. Each claim stands in a file of its own; proofs/ proves it.
--
--   Shedding              a kind of queue that sheds load by PIE: what is read of it, and what each of its calls does
--   AllowanceLasts        an allowance lasts its tick periods, rounded up, from the last tick on, whatever ticks are tried
--   Grace                 so a full one lasts 150 ms after a tick that fills it
--   Fading                ticks on an empty queue bring the probability to 0
--   Recovery              1,000 ticks on an empty queue: probability 0, and 150 ms with no early verdict
--   TicksToRecover        how many ticks on an empty queue suffice at a given target: a number that computes
--   RecoveryByTarget      that many suffice, at every target in range
--   ShorterRecovery       300 suffice at a target of 15,000 or more
--   Spacing               the probability that arrivals add between early verdicts
--   EarlyAtLeastApart     at least 0.85 is added after one early verdict, up to and with a later one
--   EarlyAtMostApart      less than 8.5 is added while no early verdict comes
--   MeasuredWhileQueued   wherever a measurement runs, a packet is queued
--   NeverGivenUp          a measurement that starts ends before the queue empties, or as it does
pub mod Shedding
pub mod WhichVerdict
pub mod IdleStep
pub mod AllowanceLasts
pub mod Grace
pub mod Fading
pub mod Recovery
pub mod TicksToRecover
pub mod RecoveryByTarget
pub mod ShorterRecovery
pub mod Spacing
pub mod EarlyAtLeastApart
pub mod EarlyAtMostApart
pub mod MeasuredWhileQueued
pub mod NeverGivenUp
