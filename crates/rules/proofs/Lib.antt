mod Slots
mod Coding
pub mod Accepts
pub mod Parsed
mod Tops
mod Backwards
mod Texts
pub mod Edited
