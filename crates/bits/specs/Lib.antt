pub mod Bit
pub mod Members
pub mod Total
