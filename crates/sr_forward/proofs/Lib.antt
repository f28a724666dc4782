pub mod ActionLemmas
pub mod HopLemmas
pub mod RunLemmas
