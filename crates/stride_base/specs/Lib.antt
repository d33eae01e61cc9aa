pub mod Ascending
pub mod Devices
pub mod ListLends
pub mod Listed
pub mod MemSinkInside
pub mod MemSourceInside
pub mod MemoryDevices
