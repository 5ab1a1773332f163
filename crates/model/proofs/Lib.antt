pub mod Ranges
pub mod Possible
pub mod Sets
pub mod Counting
pub mod Closure
mod Gathered
