pub mod Demo
pub mod Draws
pub mod Laws
pub mod Program
