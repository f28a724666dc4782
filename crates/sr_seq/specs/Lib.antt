pub mod Few
