pub mod Words
pub mod OnlyPossible
