mod Rows
mod Replaced
pub mod Verdicts
pub mod PlacedRows
pub mod BookSlots
pub mod Longest
pub mod Taken
mod SplitParts
