pub mod Replies
pub mod Choosing
pub mod Rows
