pub mod Answers
pub mod Bundles
pub mod Laws
pub mod Reading
pub mod Spelling
