pub mod Kinds
pub mod Names
pub mod Numbers
pub mod Records
