pub mod Sid
pub mod PrefixSid
pub mod AdjSid
pub mod Addr
pub mod LinkIds
pub mod Msd
pub mod SrCap
