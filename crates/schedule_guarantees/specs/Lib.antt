-- What holds of deficit round robin over 64 flows (docs/SHARED-TABLES.md, 23 to 27), of the two lists by themselves: the ring stands for
-- them (crate schedule: InRing). Each claim stands in a file of its own; proofs/ proves it.
--
--   Kept              choosing, an arrival and a departure keep the lists well formed
--   KeptInRing        and so the ring
--   ChoosingEnds      choosing ends at a flow that may be served, within 2,879 moves
--   LongestChoice     a choice of 2,879 moves
--   NeverUnlists      choosing never unlists a flow with packets
--   Stretch           a stretch of arrivals and departures, and the bytes that it serves to a flow
--   Fairness          two flows that have packets are served the same bytes, but for two largest packets and two quanta
--   FairnessReached   a stretch that reaches this bound, from empty lists on
--   Owing             no flow owes more than a largest packet
--   NeverStarved      a flow that has packets is served at least half as much as any other, but for a constant
--   TwiceAsMuch       a flow that empties and enters again is served twice as much
pub mod Kept
pub mod KeptInRing
pub mod ChoosingEnds
pub mod LongestChoice
pub mod ChoosingEmpties
pub mod LongestEmptying
pub mod NeverUnlists
pub mod Stretch
pub mod Fairness
pub mod FairnessReached
pub mod Owing
pub mod NeverStarved
pub mod TwiceAsMuch
