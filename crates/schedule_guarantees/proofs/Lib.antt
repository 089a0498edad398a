-- The proofs of the claims in specs/, and what they share.
--
--   Measure, Moves    how many moves are left; what a move keeps
--   Before, Levels    which of two flows stands first; how their deficits go together
--   Shares            the same for a flow that has packets and any other
pub mod Measure
pub mod Moves
pub mod Kept
pub mod KeptInRing
pub mod ChoosingEnds
pub mod LongestChoice
pub mod AllMoves
pub mod ChoosingEmpties
pub mod LongestEmptying
pub mod Stretch
pub mod Before
pub mod Levels
pub mod Fairness
pub mod FairnessReached
pub mod Owing
pub mod Shares
pub mod NeverStarved
pub mod TwiceAsMuch
