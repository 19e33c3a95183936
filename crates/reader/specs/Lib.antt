pub mod Commands
pub mod Layouts
pub mod Maps
pub mod Readings
pub mod Tables
pub mod Walks
