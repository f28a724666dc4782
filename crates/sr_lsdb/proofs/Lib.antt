pub mod AnnouncementLemmas
pub mod OrderLemmas
pub mod RangeLemmas
mod DraftLemmas
mod AlikeLemmas
