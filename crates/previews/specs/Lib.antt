pub mod Effects
pub mod Previews
