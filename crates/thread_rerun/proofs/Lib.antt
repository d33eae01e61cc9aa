pub mod Appending
pub mod Going
pub mod Looping
pub mod Threads
