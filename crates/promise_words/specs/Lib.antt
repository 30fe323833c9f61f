pub mod Clocks
pub mod Runs
pub mod Samples
pub mod Stability
pub mod Timestamps
