pub mod Claiming
pub mod Holding
pub mod Limit
pub mod Within
