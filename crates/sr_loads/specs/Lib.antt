pub mod Packets
pub mod Loads
pub mod Tally
pub mod Queue
pub mod Forwarders
pub mod Laws
