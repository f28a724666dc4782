pub mod SpanLemmas
pub mod NetLemmas
pub mod BegunLemmas
