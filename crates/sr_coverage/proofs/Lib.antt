pub mod AddUpLemmas
pub mod GroupLemmas
pub mod PushedLemmas
pub mod PushesLemmas
pub mod SumLemmas
pub mod WithinLemmas
pub mod DeterminedLemmas
