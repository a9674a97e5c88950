pub mod Judging
pub mod Leaving
pub mod Meaning
pub mod Opening
pub mod Step
