pub mod RangeLoops
pub mod NetLemmas
mod KeyPlaces
pub mod Places
pub mod IndexLists
mod IndexOrder
pub mod Clashes
pub mod SameLemmas
