pub mod Refusals
pub mod Sending
pub mod Sites
