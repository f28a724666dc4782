pub mod ReachLaws
pub mod PrefixLaws
pub mod NameLaws
pub mod RiskLaws
pub mod CapabilityLaws
pub mod PartsLemmas
pub mod TableLaws
pub mod HeaderLemmas
pub mod LspLemmas
pub mod TruncationLemmas
pub mod LayoutLemmas
mod SameLemmas
