pub mod Calls
pub mod Outgoing
pub mod Senders
pub mod States
