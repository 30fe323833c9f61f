pub mod Answers
pub mod Makes
pub mod Places
pub mod Rules
pub mod Say
