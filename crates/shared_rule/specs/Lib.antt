pub mod Facts
pub mod Lines
pub mod Views
pub mod Accesses
pub mod Holding
pub mod Plays
pub mod Passes
pub mod Closing
