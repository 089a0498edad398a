-- What holds of every script: each claim stands in a file of its own; proofs/ proves it.
--
--   ScriptText       what a script writes: the answers in the trace of its requests
--   ScriptEnd        where it ends: the state and the tables of `run` over its requests
--   RunTrace         `run` and the trace tell the same
--   ScriptVerdicts   question 1: a packet is dropped early or marked exactly when the rules require it
--   ScriptOrder      demand 2: first in, first out
--   ScriptBytes      question 3: the bytes on a line are those admitted so far less those departed so far
--   ScriptRecovery   demand 3 and question 4: 1,000 ticks on an empty queue
--   ScriptGrace      question 2: a refilled allowance lasts 150 ms
--   ScriptRefusals   which refusals a script's requests are never given
pub mod Asked
pub mod Entries
pub mod ScriptText
pub mod ScriptEnd
pub mod RunTrace
pub mod ScriptVerdicts
pub mod ScriptOrder
pub mod ScriptBytes
pub mod ScriptRecovery
pub mod ScriptGrace
pub mod ScriptRefusals
