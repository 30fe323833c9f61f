pub mod OneChange
pub mod Order
pub mod Promises
pub mod Runs
pub mod Samples
pub mod Sets
