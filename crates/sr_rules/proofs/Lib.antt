pub mod BrokenLemmas
pub mod SrgbLemmas
pub mod NodesLemmas
pub mod DuplicateLemmas
pub mod OutsideLemmas
pub mod ClashLemmas
pub mod LinksLemmas
