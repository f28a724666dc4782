pub mod SystemTextLemmas
pub mod KeyOrderLemmas
