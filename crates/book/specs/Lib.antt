pub mod Allowance
pub mod Days
pub mod Fault
pub mod Laws
