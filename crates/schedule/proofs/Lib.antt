pub mod Members
pub mod Sameness
