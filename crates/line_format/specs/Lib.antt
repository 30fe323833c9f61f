pub mod Encoding
pub mod Faults
pub mod Fields
pub mod Laws
pub mod Limits
pub mod Reading
pub mod Writing
