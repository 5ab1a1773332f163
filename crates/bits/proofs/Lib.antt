pub mod Laws
pub mod Totals
mod Lowest
mod Ones
pub mod Ascending
