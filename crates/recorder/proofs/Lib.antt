pub mod Ending
pub mod Halving
pub mod Kept
pub mod Looking
pub mod Recorded
pub mod Rows
pub mod Waiting
