-- Two queues over one pair of tables (docs/SHARED-TABLES.md, 10 to 17): intercom and passengers, each with its own state and reserve.
pub mod Queues
pub mod WellFormed
pub mod Answer
pub mod Fresh
pub mod Facing
pub mod Refusals
pub mod Arrival
pub mod Departure
pub mod Tick
