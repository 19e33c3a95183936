pub mod Names
pub mod Symbols
