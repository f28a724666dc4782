pub mod SpaceLemmas
pub mod AroundLemmas
pub mod OverLemmas
pub mod AwayLemmas
