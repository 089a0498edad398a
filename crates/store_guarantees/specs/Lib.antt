-- What holds of a store and any number of chains over one pair of tables. Each claim stands in a file of its own; proofs/ proves it.
--
--   Chains            a store, its chains and both tables; what the chains hold; a put and a take
--   Sound             each used place is in exactly one chain or among the freed, and there once
--   Calls             a call on one chain moves that chain's packets, leaves all others, and follows no link to no slot
--   Requests          lists of calls, everything handed back untouched
--   NeverLost         from fresh: no call is refused for a link
--   FirstInFirstOut   from fresh: what entered a chain is what left it and then what it holds, in order
--   AsLists           from fresh: the answers are those of plain lists of packets
--   Alone             a chain's answers are those of one list of packets while it finds a free slot
--   Isolation         so they depend on its own requests alone
--   Example           two chains over three slots
pub mod Chains
pub mod Sound
pub mod Calls
pub mod Requests
pub mod NeverLost
pub mod FirstInFirstOut
pub mod AsLists
pub mod Alone
pub mod Isolation
pub mod Example
