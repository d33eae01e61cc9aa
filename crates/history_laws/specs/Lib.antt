pub mod HistoryEvents
pub mod Laws
pub mod RecordedRuns
