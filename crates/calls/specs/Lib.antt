-- Lists of calls, whatever is called: what is said of a queue over lists of calls is said here once, over any kind of state and call. A
-- kind of queue supplies its readings and shows what one call keeps (`Keeps`); what holds of every list of calls follows.
--
--   Kind, Traces      a kind of state and call; its trace
--   Parts             several queues in one state: a part that only its own calls change answers as if it were alone
--   Packets, Ring     packets, and how two tables hold them as a ring
--   Requests          what is asked of a queue, and the packets that a call brings in and hands out
--   Handed            a queue that is handed back untouched at each call, and what its calls admitted, handed out and answered
--   FirstInFirstOut   admitted = departed, then queued, in order
--   Conservation      queued bytes = bytes admitted − bytes departed; each count is the number of answers so given
pub mod Kind
pub mod Traces
pub mod Parts
pub mod Packets
pub mod Ring
pub mod Requests
pub mod Handed
pub mod FirstInFirstOut
pub mod Conservation
