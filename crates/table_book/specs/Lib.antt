pub mod Held
pub mod Meaning
pub mod Room
