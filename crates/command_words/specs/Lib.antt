pub mod App
pub mod Laws
pub mod Reading
pub mod Words
