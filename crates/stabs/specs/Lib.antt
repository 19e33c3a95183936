pub mod Cursors
pub mod Splits
pub mod Stabs
