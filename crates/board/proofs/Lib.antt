pub mod Marks
mod Counts
