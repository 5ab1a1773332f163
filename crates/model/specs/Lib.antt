pub mod Facts
pub mod IfPossible
pub mod Sizes
pub mod Sides
pub mod Chains
