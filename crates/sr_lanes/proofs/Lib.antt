pub mod EqualLemmas
pub mod LaneLemmas
pub mod MarkLemmas
pub mod RunLemmas
pub mod WordLemmas
pub mod SizeLemmas
pub mod AmongLemmas
pub mod SetLemmas
