pub mod LineLemmas
pub mod WantedLemmas
