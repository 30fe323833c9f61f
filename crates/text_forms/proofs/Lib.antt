pub mod Nibbles
pub mod Numerals
pub mod Texts
