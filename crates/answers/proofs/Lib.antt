mod Words
mod Members
mod Reached
mod Stacks
mod Rooms
pub mod Standing
pub mod Naming
