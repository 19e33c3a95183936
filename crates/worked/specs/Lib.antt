pub mod Examples
pub mod Tables
