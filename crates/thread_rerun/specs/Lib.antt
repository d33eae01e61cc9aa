pub mod Rerunning
pub mod Shows
