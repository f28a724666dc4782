pub mod AppendLemmas
pub mod CaseLemmas
pub mod CountLemmas
pub mod JoinLemmas
pub mod RestLemmas
