pub mod Heads
mod Told
