pub mod Books
pub mod Days
pub mod Lines
pub mod Reasons
