pub mod FirstLine
pub mod Players
pub mod Replays
pub mod Schedules
pub mod Tables
