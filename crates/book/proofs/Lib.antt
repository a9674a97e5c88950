pub mod Days
pub mod Gathering
pub mod Laws
pub mod Lots
