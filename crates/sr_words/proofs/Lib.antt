pub mod MakingLemmas
pub mod TaskLemmas
