mod Places
mod Alike
mod Carry
mod Upright
mod Turns
mod Told
mod Lawful
mod Extending
