pub mod Accessing
pub mod Halves
pub mod Sessions
pub mod Takings
pub mod Threads
