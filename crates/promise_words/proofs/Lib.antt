pub mod Bits
pub mod Majorities
pub mod Members
pub mod Runs
