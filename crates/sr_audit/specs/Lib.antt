pub mod Audited
pub mod Cases
pub mod Counted
