pub mod Layouts
pub mod Listings
pub mod Offsets
pub mod Queries
