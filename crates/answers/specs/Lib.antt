pub mod Qualify
pub mod Stack
pub mod Validity
pub mod Refuted
pub mod Outside
