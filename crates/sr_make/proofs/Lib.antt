pub mod PairLemmas
pub mod SizeLemmas
pub mod ScriptLemmas
pub mod MakingLemmas
