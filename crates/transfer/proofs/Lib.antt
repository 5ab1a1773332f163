pub mod Turns
pub mod Writes
pub mod Fits
