-- Laws about the calls on 64 flows, for the functions' proofs and for the theorems over lists of calls.
--
--   EachFlow           what a well-formed record says of each flow, and of the lists
--   Rows               part of the rows of refusals looked at first
--   Replies            what a tick gives; ArrivalReplies, DepartureReplies: the other calls
--   WhenAccepted       what a call that no test refuses is known to have
--   IdleTick           a tick of an idle flow
--   Cases              a call is refused or accepted
--   Malformed          on a record that is not well formed every call is refused by 2
pub mod EachFlow
pub mod Rows
pub mod Replies
pub mod ArrivalReplies
pub mod DepartureReplies
pub mod WhenAccepted
pub mod IdleTick
pub mod Cases
pub mod Malformed
