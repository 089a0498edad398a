-- Laws of deficit round robin.
--
--   Occurs    how often a flow stands in a list
--   Well      what well-formed lists say as orders and equations
--   Totals    room for a flow that is not listed
--   Facts     where the lists stand in the ring, as order facts
--   Ring      the ring: its head, its parts, and a write behind it
--   Flows     lists of which each entry is a flow
--   Tallied   the test of the flows: how often each is listed
--   Moves     what a look moves stays in range
--   Looks     a look at the ring is a look at its two lists
--   Chosen    choosing goes on after a look
--   InRing    the ring stands for the two lists
--   HeadPassed  a look that writes nothing
pub mod Facts
pub mod Ring
pub mod Occurs
pub mod Well
pub mod Totals
pub mod Flows
pub mod Tallied
pub mod Moves
pub mod Looks
pub mod Chosen
pub mod InRing
pub mod HeadPassed
