pub mod SortedLemmas
pub mod ListedLemmas
pub mod SidLemmas
pub mod OutLemmas
pub mod LookLemmas
