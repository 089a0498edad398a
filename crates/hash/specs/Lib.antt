-- 22: the flow of a packet's key.
pub mod OneAtATime
pub mod Salt
pub mod Examples
