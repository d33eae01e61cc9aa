pub mod Begins
pub mod FirstLines
pub mod Going
pub mod Left
pub mod Playthrough
pub mod Turning
