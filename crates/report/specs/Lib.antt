pub mod Members
pub mod Lines
pub mod Cpus
pub mod Rooms
