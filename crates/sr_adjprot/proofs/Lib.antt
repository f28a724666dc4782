pub mod EligibleLemmas
pub mod BackupLemmas
pub mod MarkLemmas
pub mod AnswerLemmas
