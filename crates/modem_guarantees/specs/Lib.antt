-- What holds of a cable modem's flows over lists of calls, each claim in a file that can be read alone.
--
--   Calls             one flow's calls and their trace: any row and any tables may be lent to each call
--   Refusals          which number a call is refused by, 10 ahead of the others; a refused call changes nothing
--   Bounds            the stored, the accumulated and the scaled probability keep within 13.6, 8.5 and 0.85
--   NeverEarly        where p is 0, or an allowance runs, no packet is dropped early
--   Grace             an early drop that made a flow active protects it for 128 ms
--   Handed            a flow that is handed back untouched at each call, from a fresh one
--   FirstInFirstOut   admitted = departed, then queued, in order
--   Conservation      queued bytes = bytes admitted − bytes departed; each count of the row is the number of answers so given
--   Modem             sixteen flows and one table of counts
--   AsIfAlone         each flow is answered as if it were alone: no call reads or changes another flow's row
pub mod Calls
pub mod Handed
pub mod Refusals
pub mod WhichVerdict
pub mod Kept
pub mod Bounds
pub mod NeverEarly
pub mod Grace
pub mod TicksToRecover
pub mod Recovery
pub mod FirstInFirstOut
pub mod Conservation
pub mod Modem
pub mod AsIfAlone
pub mod EveryFlow
pub mod EveryFlowRecovers
