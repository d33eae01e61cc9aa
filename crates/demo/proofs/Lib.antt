pub mod CodeLemmas
pub mod DrawLemmas
mod Examples
pub mod ListLemmas
pub mod OrderLemmas
pub mod PowerLemmas
pub mod ProgramLemmas
pub mod WorkerLemmas
