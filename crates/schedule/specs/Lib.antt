pub mod Changes
pub mod Group
pub mod Making
pub mod Phases
pub mod Sets
