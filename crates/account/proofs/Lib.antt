pub mod Bounded
pub mod Judged
