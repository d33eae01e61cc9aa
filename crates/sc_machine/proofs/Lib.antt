pub mod AtStop
mod Completed
pub mod Digits
mod Examples
mod GoingOn
pub mod Inside
pub mod Output
pub mod RanOn
pub mod Refusals
pub mod Rows
pub mod SharedRows
pub mod Single
pub mod Standing
pub mod Starts
pub mod Steps
pub mod Told
pub mod Turning
mod TurnsOfOne
