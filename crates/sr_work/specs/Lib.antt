pub mod Reports
pub mod Watched
pub mod Works
pub mod Started
pub mod Reported
