pub mod Chronicle
pub mod Facts
pub mod Laws
