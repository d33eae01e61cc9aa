pub mod AscendingLemmas
pub mod ListedCalls
pub mod SinkLemmas
pub mod SourceLemmas
